-- The number and the place of the refusal of a slot number.
use Rattle.std.specs.Prelude.{ℕ}
use Rattle.source.specs.declared.slot.NoSuchSlot.{NoSuchSlot}

-- 16: there is no such slot
abbrev pub slot_number : NoSuchSlot → ℕ
slot_number f = 16

-- the slot number that was asked for
abbrev pub slot_place : NoSuchSlot → ℕ
slot_place f = f.slot
