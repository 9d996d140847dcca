-- The slots that a word names: by a product, or by a number or two.
use Rattle.std.specs.Prelude.{ℕ, zero, suc, ◌+◌, ◌-◌, List, take, drop, Some, None, Ok, Option, ◌==◌, nat_le, nat_lt, ok_or, if◌then◌else◌}
use Rattle.std.specs.List.{position}
use Rattle.units.specs.Chains.{result_and_then}
use Rattle.source.specs.Products.{manual_slot, weight}
use Rattle.source.specs.declared.product.ManualProduct.{ManualProduct}
use Rattle.source.specs.declared.slot.TheConstants.{SLOTS}
use Rattle.words.specs.Faults.{at_word, fault_at}
use Rattle.words.specs.Marks.{dash}
use Rattle.words.specs.Numerals.{digits}
use Rattle.quarter_text.specs.Faults.{ReadOrFault}
use Rattle.quarter_text.specs.Products.{product_named}
use Rattle.quarter_text.specs.declared.fault.Part.TheVariants as part
use Rattle.quarter_text.specs.declared.fault.Problem.TheVariants.{Expected, NoSuchSlot, BackwardRange}
use Rattle.quarter_text.specs.declared.range.Range.{Range}

-- the slots from a to b
abbrev pub slots_from_to : ℕ → ℕ → Range
slots_from_to a b = record { first = a; last = b }

-- the slot of a number, which is one of a quarter's
abbrev pub slot_of : List ℕ → ReadOrFault ℕ
slot_of w = result_and_then (ok_or (digits w) (fault_at 0 (Expected part.Slots))) (λ n. if nat_lt n SLOTS then Ok n else at_word 0 NoSuchSlot)

-- one slot, or the first and the last of a range, by the place of the dash between them
abbrev pub numbered : List ℕ → Option ℕ → ReadOrFault Range
numbered w None = result_and_then (slot_of w) (λ n. Ok (slots_from_to n n))
numbered w (Some k) =
    result_and_then (slot_of (take k w))
    (λ a. result_and_then (slot_of (drop (k + 1) w))
    (λ b. if nat_le a b then Ok (slots_from_to a b) else at_word 0 BackwardRange))

-- the slot of a manual product, or else the slots that the word numbers
abbrev pub range_by : Option ManualProduct → List ℕ → ReadOrFault Range
range_by (Some p) w = Ok (slots_from_to (manual_slot p) (manual_slot p))
range_by None w = numbered w (position (λ b. b == dash) w)

-- the slots that a word names
abbrev pub range_of : List ℕ → ReadOrFault Range
range_of w = range_by (product_named w) w

-- the weights of n slots from the first on
abbrev pub weights : ℕ → ℕ → ℕ
weights first zero = 0
weights first (suc n) = weights first n + weight (first + n)

-- the weights of the slots of a range
abbrev pub weight_of_range : Range → ℕ
weight_of_range r = weights r.first (r.last + 1 - r.first)
