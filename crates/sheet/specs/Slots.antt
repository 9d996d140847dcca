-- The slots of a sheet, one record after another.
use Rattle.std.specs.Prelude.{ℕ, zero, suc, ◌+◌, List, [], ◌∷◌, drop, replicate, Ok, Err, Result, None}
use Rattle.source.specs.Slots.{Slot}
use Rattle.sheet.specs.declared.fault.RecordFault.{RecordFault}
use Rattle.sheet.specs.declared.fault.Spot.{Spot}
use Rattle.sheet.specs.Records.{slot_told, SlotTold}

-- a place among the bytes of the sheet, in a slot
abbrev pub spot_at : ℕ → ℕ → Spot
spot_at place slot = record { place = place; slot = slot }

-- what is told of one slot after another, and the place after the last of them, or the first fault
abbrev pub SlotsTold : Type 0
SlotsTold = List Slot × Result ℕ RecordFault

-- one slot and the k after it, by where its bytes end; from a fault on, every slot is unreported
abbrev pub slot_and_later : ℕ → SlotTold → (ℕ → SlotsTold) → SlotsTold
slot_and_later k (Ok told) later = (told.0 ∷ (later told.1).0, (later told.1).1)
slot_and_later k (Err f) later = (replicate (suc k) None, Err f)

-- what is told of k slots from slot i on, whose records begin at the place at of the sheet s
unfoldable pub slots_told : ℕ → List ℕ → ℕ → ℕ → SlotsTold
slots_told zero s i at = ([], Ok at)
slots_told (suc k) s i at = slot_and_later k (slot_told (spot_at at i) (drop at s)) (λ n. slots_told k s (i + 1) (at + n))
