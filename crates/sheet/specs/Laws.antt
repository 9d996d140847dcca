-- What holds of the first fault of a sheet, of the records that are handed out of it, and of the bytes that decide it.
use Rattle.std.specs.Prelude.{◌≡◌, ℕ, ◌+◌, ◌<◌, ◌≤◌, List, [], ◌++◌, length, take, drop, map, flat_map, ◌≢◌, Some, None, Ok, Err, Result, slice_get}
use Rattle.source.specs.declared.slot.TheConstants.{SLOTS}
use Rattle.sheet.specs.declared.fault.SheetFault.{SheetFault}
use Rattle.sheet.specs.declared.head.Head.{Head}
use Rattle.sheet.specs.Faults.{fault_number, fault_place, fault_slot}
use Rattle.sheet.specs.Heads.{head_of}
use Rattle.sheet.specs.Readers.{RecordOrFault, RecordParts, fault_alone, record_bytes, records_of_sheet}
use Rattle.sheet.specs.Records.{slot_told}
use Rattle.sheet.specs.Slots.{spot_at}
use Rattle.sheet.specs.Sheets.{first_fault, sheet_meaning}

-- fault 1 is placed at the sheet's end, and each other at a byte of the sheet
abbrev pub Placed : List ℕ → SheetFault → Type 0
Placed s f = (fault_number f ≡ 1 → fault_place f ≡ length s) × ((fault_number f ≢ 1) → fault_place f < length s)

-- nothing is told of the fault's slot and of those after it
abbrev pub Silent : List ℕ → SheetFault → Type 0
Silent s f = (k : ℕ) → fault_slot f ≤ k → (sheet_meaning s).slots k ≡ None

-- all bytes of the records, one after another
abbrev pub all_bytes : List RecordParts → List ℕ
all_bytes rs = flat_map record_bytes rs

-- how many slots are read, where the first fault is this
abbrev pub slots_read : Result (Unit {0}) SheetFault → ℕ
slots_read (Ok _) = SLOTS
slots_read (Err f) = fault_slot f

-- r is the record of slot k of the sheet s, and begins at the place at
pub record IsRecord (s : List ℕ) (k at : ℕ) (r : RecordParts) : Type 0 where
  pub placed : r.place ≡ at
  pub read : slot_told (spot_at at k) (drop at s) ≡ Ok (r.tells, length (record_bytes r))
  pub told : (sheet_meaning s).slots k ≡ r.tells

-- xs are the records of the sheet s, and then its first fault, if it has one
pub record ByRecords (s : List ℕ) (xs : List RecordOrFault) : Type 0 where
  pub head : Head
  pub headed : head_of s ≡ Ok head
  pub records : List RecordParts
  pub hands_out : xs ≡ map Ok records ++ fault_alone (first_fault s)
  -- one for each slot, or for each before the fault's
  pub counted : length records ≡ slots_read (first_fault s)
  pub one_a_slot_at_most : length records ≤ SLOTS
  -- the head's bytes, those of each record, and without a fault nothing else
  pub left : List ℕ
  pub bytes : s ≡ take head.end s ++ (all_bytes records ++ left)
  pub whole : first_fault s ≡ Ok tt → left ≡ []
  -- record k begins where the records before it end
  pub each : (k : ℕ) (r : RecordParts) → slice_get records k ≡ Some r → IsRecord s k (head.end + length (all_bytes (take k records))) r

-- the bytes t decide the sheet s: they have its first fault, tell what it tells, and the same is handed out of them
pub record DecideSheet (t s : List ℕ) : Type 0 where
  pub fault : first_fault t ≡ first_fault s
  pub told : sheet_meaning t ≡ sheet_meaning s
  pub handed_out : records_of_sheet t ≡ records_of_sheet s
