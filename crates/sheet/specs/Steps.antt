-- What private functions answer.
use Rattle.std.specs.Prelude.{ℕ, List, drop, Ok, Err, Result, nat_lt, if◌then◌else◌}
use Rattle.units.specs.Chains.{result_and_then}
use Rattle.source.specs.declared.slot.TheConstants.{SLOTS}
use Rattle.sheet.specs.declared.fault.RecordFault.{RecordFault}
use Rattle.sheet.specs.declared.fault.SheetFault.TheVariants as sf
use Rattle.sheet.specs.declared.slot_record.Record.{Record}
use Rattle.sheet.specs.Readers.{RecordOrFault, RecordParts, in_sheet, record_at, parts_of}
use Rattle.sheet.specs.Slots.{spot_at}

-- what a value of the code says of a record, or its fault
abbrev pub parts_read : Result Record RecordFault → Result RecordParts RecordFault
parts_read x = result_and_then x (λ r. Ok (parts_of r))

-- what the sheet s has at the place at: the record of slot i, or after slot 227 the fault that bytes are left
abbrev pub here : List ℕ → ℕ → ℕ → RecordOrFault
here s i at = if nat_lt i SLOTS then in_sheet (record_at (spot_at at i) (drop at s)) else Err (sf.After at)
