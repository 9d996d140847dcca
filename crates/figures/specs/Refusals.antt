-- The number and the place of the refusal of a quarter that has an unreported slot.
use Rattle.std.specs.Prelude.{ℕ}
use Rattle.figures.specs.declared.fault.UnreportedSlot.{UnreportedSlot}

-- 7: a slot is not reported
abbrev pub unreported_number : UnreportedSlot → ℕ
unreported_number f = 7

-- the first slot that is not reported
abbrev pub unreported_place : UnreportedSlot → ℕ
unreported_place f = f.slot
