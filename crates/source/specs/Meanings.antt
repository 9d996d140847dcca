-- The meaning of a price source: its 228 slots, its zone net and its avoided value.
use Rattle.std.specs.Prelude.{ℕ, Ok, Err, Option, Result, nat_lt, if◌then◌else◌}
use Rattle.source.specs.declared.slot.NoSuchSlot.{NoSuchSlot}
use Rattle.source.specs.declared.slot.TheConstants.{SLOTS}
use Rattle.source.specs.Slots.{Slot}
use Rattle.units.specs.declared.price.Price.{Price}
use Rattle.units.specs.declared.zone_net.ZoneNet.{ZoneNet}

-- what a source tells: each slot, the zone net, and the avoided value if there is one
pub record Meaning : Type 0 where
  pub slots : ℕ → Slot
  pub zone : ZoneNet
  pub avoided : Option Price

-- the answer to a slot's question: a slot number above 227, and no other, is refused
abbrev pub slot_answer : Meaning → ℕ → Result Slot NoSuchSlot
slot_answer m k = if nat_lt k SLOTS then Ok (m.slots k) else Err (record { slot = k })
