-- What a source tells of a slot.
use Rattle.std.specs.Prelude.{ℕ, None, nat_lt, if◌then◌else◌}
use Rattle.source.specs.declared.slot.TheConstants.{SLOTS}
use Rattle.source.specs.Meanings.{Meaning}
use Rattle.source.specs.Slots.{Slot}

-- what is told of a slot; of a slot number above 227 nothing is
abbrev pub told_of : Meaning → ℕ → Slot
told_of m k = if nat_lt k SLOTS then m.slots k else None
