-- The balancing product of a slot, and its weight.
use Rattle.std.specs.Prelude.{◌≡◌, ℕ, Ok, Err, Result, ◌==◌, nat_lt, if◌then◌else◌}
use Rattle.source.specs.declared.product.ManualProduct.{ManualProduct}
use Rattle.source.specs.declared.product.ManualProduct.TheVariants.{Scheduled, DirectUp, DirectDown}
use Rattle.source.specs.declared.product.Product.{Product}
use Rattle.source.specs.declared.product.Product.TheVariants.{Automatic, Manual}
use Rattle.source.specs.declared.product.TheConstants.{CYCLES, SCHEDULED, DIRECT_UP, DIRECT_DOWN}
use Rattle.source.specs.declared.slot.NoSuchSlot.{NoSuchSlot}
use Rattle.source.specs.declared.slot.TheConstants.{SLOTS}

-- the numbers by which code and definitions go: 228 slots, of which the first 225 are cycles
pub record SlotNumbers : Type 0 where
  pub slots : SLOTS ≡ 228
  pub cycles : CYCLES ≡ 225
  pub scheduled : SCHEDULED ≡ 225
  pub direct_up : DIRECT_UP ≡ 226
  pub direct_down : DIRECT_DOWN ≡ 227

-- slots 0 to 224 are automatic cycles, 225 scheduled, 226 and 227 direct manual activation up and down
abbrev pub product_of : ℕ → Result Product NoSuchSlot
product_of k =
    if nat_lt k CYCLES then Ok Automatic
    else if k == SCHEDULED then Ok (Manual Scheduled)
    else if k == DIRECT_UP then Ok (Manual DirectUp)
    else if k == DIRECT_DOWN then Ok (Manual DirectDown)
    else Err (record { slot = k })

-- the slot of a manual product
abbrev pub manual_slot : ManualProduct → ℕ
manual_slot Scheduled = SCHEDULED
manual_slot DirectUp = DIRECT_UP
manual_slot DirectDown = DIRECT_DOWN

-- 1 for a cycle; a manual slot weighs as much as all cycles
abbrev pub weight_of_product : Product → ℕ
weight_of_product Automatic = 1
weight_of_product (Manual p) = CYCLES

-- the weight of a slot: 1 for a cycle, 225 for a manual slot, 0 where there is no slot
abbrev pub weight : ℕ → ℕ
weight k = if nat_lt k CYCLES then 1 else if nat_lt k SLOTS then CYCLES else 0
