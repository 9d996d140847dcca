-- A reader that hands out the records of a sheet, one after another.
use Rattle.std.specs.Prelude.{ℕ, zero, suc, ◌+◌, ◌-◌, List, [], ◌∷◌, length, drop, Some, None, Ok, Err, Option, Result, slice_index}
use Rattle.std.specs.List.{between}
use Rattle.units.specs.Chains.{result_and_then, result_map_err}
use Rattle.source.specs.Slots.{Slot}
use Rattle.source.specs.declared.slot.TheConstants.{SLOTS}
use Rattle.units.specs.declared.demand.Demand.{Demand}
use Rattle.units.specs.declared.price.Price.{Price}
use Rattle.sheet.specs.declared.fault.RecordFault.{RecordFault}
use Rattle.sheet.specs.declared.fault.SheetFault.{SheetFault}
use Rattle.sheet.specs.declared.fault.SheetFault.TheVariants as sf
use Rattle.sheet.specs.declared.fault.Spot.{Spot}
use Rattle.sheet.specs.declared.reader.Reader.{Reader}
use Rattle.sheet.specs.declared.slot_record.Record.{Record}
use Rattle.sheet.specs.declared.slot_record.Record.TheVariants as rec
use Rattle.sheet.specs.Heads.{head_of}
use Rattle.sheet.specs.Records.{lead_byte, reported_slot, slot_told, SlotTold}
use Rattle.sheet.specs.Slots.{spot_at}
use Rattle.sheet.specs.Sheets.{nothing_follows}

-- a record as the sheet has it: the place of its lead byte, that byte, the bytes after it, and what it tells of its slot
pub record RecordParts : Type 0 where
  pub place : ℕ
  pub lead : ℕ
  pub body : List ℕ
  pub tells : Slot

-- all bytes of a record
abbrev pub record_bytes : RecordParts → List ℕ
record_bytes r = r.lead ∷ r.body

-- the record of n bytes at the front of s, which begins at p and tells v
abbrev pub record_of_bytes : Spot → List ℕ → Slot → ℕ → RecordParts
record_of_bytes p s v n = record { place = p.place; lead = slice_index s 0; body = between 1 n s; tells = v }

-- the record at the front of s by what it tells, or its fault
abbrev pub record_telling : Spot → List ℕ → SlotTold → Result RecordParts RecordFault
record_telling p s x = result_and_then x (λ told. Ok (record_of_bytes p s told.0 told.1))

-- the record at the front of s, which begins at p, or its fault
abbrev pub record_at : Spot → List ℕ → Result RecordParts RecordFault
record_at p s = record_telling p s (slot_told p s)

-- what a reader hands out: a record, or the fault at which the reading ends
abbrev pub RecordOrFault : Type 0
RecordOrFault = Result RecordParts SheetFault

-- a fault in a record is the sheet's
abbrev pub in_sheet : Result RecordParts RecordFault → RecordOrFault
in_sheet x = result_map_err x sf.Slot

-- a fault, if there is one
abbrev pub fault_alone : Result (Unit {0}) SheetFault → List RecordOrFault
fault_alone (Ok _) = []
fault_alone (Err f) = Err f ∷ []

-- a record and those after it, by how many bytes it has; or the fault alone
abbrev pub record_and_later : RecordOrFault → (ℕ → List RecordOrFault) → List RecordOrFault
record_and_later (Ok r) later = Ok r ∷ later (length (record_bytes r))
record_and_later (Err f) later = Err f ∷ []

-- k records from slot i and the place at of the sheet s on, and the fault that bytes are left; or those before the first fault, and that fault
unfoldable pub records_from : ℕ → List ℕ → ℕ → ℕ → List RecordOrFault
records_from zero s i at = fault_alone (nothing_follows s at)
records_from (suc k) s i at = record_and_later (in_sheet (record_at (spot_at at i) (drop at s))) (λ n. records_from k s (i + 1) (at + n))

-- what is handed out of the sheet s after its head, from slot 0 on; or the fault of its head
unfoldable pub records_of_sheet : List ℕ → Result (List RecordOrFault) SheetFault
records_of_sheet s = result_and_then (head_of s) (λ h. Ok (records_from SLOTS s 0 h.end))

-- the parts of a record of a reported slot
abbrev pub reported_parts : ℕ → List ℕ → Demand → Option Price → Option Price → RecordParts
reported_parts place body d u v = record { place = place; lead = lead_byte u v; body = body; tells = reported_slot d u v }

-- the parts of a record, as the code has it
abbrev pub parts_of : Record → RecordParts
parts_of (rec.Unreported place) = record { place = place; lead = 0; body = []; tells = None }
parts_of (rec.Demand d body place) = reported_parts place body.now d None None
parts_of (rec.Up d u body place) = reported_parts place body.now d (Some u) None
parts_of (rec.Down d v body place) = reported_parts place body.now d None (Some v)
parts_of (rec.Both d u v body place) = reported_parts place body.now d (Some u) (Some v)

-- the parts of what the code's reader hands out, or its fault
abbrev pub record_or_fault : Result Record SheetFault → RecordOrFault
record_or_fault x = result_and_then x (λ r. Ok (parts_of r))

-- what a reader has still to hand out
abbrev pub records_left : Reader → List RecordOrFault
records_left r = records_from (SLOTS - r.slot) r.sheet.now r.slot r.at

-- what a reader that was asked for has to hand out, or the fault in its place
abbrev pub left_or_fault : Result Reader SheetFault → Result (List RecordOrFault) SheetFault
left_or_fault x = result_and_then x (λ r. Ok (records_left r))
