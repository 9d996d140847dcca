-- The words that stand for the slots of manual products.
use Rattle.std.specs.Prelude.{ℕ, List, Some, None, Option, codes, if◌then◌else◌}
use Rattle.std.specs.Str.{bytes_eq}
use Rattle.source.specs.declared.product.ManualProduct.{ManualProduct}
use Rattle.source.specs.declared.product.ManualProduct.TheVariants.{Scheduled, DirectUp, DirectDown}

-- the word of a product
abbrev pub product_word : ManualProduct → List ℕ
product_word Scheduled = codes "scheduled"
product_word DirectUp = codes "up"
product_word DirectDown = codes "down"

-- the product whose word this is, if it is one's
abbrev pub product_named : List ℕ → Option ManualProduct
product_named w =
    if bytes_eq w (product_word Scheduled) then Some Scheduled
    else if bytes_eq w (product_word DirectUp) then Some DirectUp
    else if bytes_eq w (product_word DirectDown) then Some DirectDown
    else None
