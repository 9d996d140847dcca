-- The number, the place and the slot of a fault, and its text.
use Rattle.std.specs.Prelude.{ℕ, List, ◌∷◌, ◌++◌, decimal}
use Rattle.sheet.specs.declared.fault.NumberFault.{NumberFault}
use Rattle.sheet.specs.declared.fault.NumberFault.TheVariants as nf
use Rattle.sheet.specs.declared.fault.RecordFault.{RecordFault}
use Rattle.sheet.specs.declared.fault.RecordFault.TheVariants as rf
use Rattle.sheet.specs.declared.fault.SheetFault.{SheetFault}
use Rattle.sheet.specs.declared.fault.SheetFault.TheVariants as sf
use Rattle.sheet.specs.declared.fault.Spot.{Spot}
use Rattle.sheet.specs.declared.fault.TheConstants.{HEAD}
use Rattle.sheet.specs.Marks.{refusal_mark, space}

-- 1: the sheet ends in the number; 3: its form isn't the one in which it is stored; 5: it is out of bounds
abbrev pub number_number : NumberFault → ℕ
number_number (nf.Ends p) = 1
number_number (nf.Form p) = 3
number_number (nf.Bounds p) = 5

-- where a number is at fault, in which slot: at the sheet's end for fault 1, else at the number's first byte
abbrev pub number_spot : NumberFault → Spot
number_spot (nf.Ends p) = p
number_spot (nf.Form p) = p
number_spot (nf.Bounds p) = p

-- the byte of that spot
abbrev pub number_place : NumberFault → ℕ
number_place f = (number_spot f).place

-- a number's fault; 1: the sheet ends before the record; 4: an unknown lead byte
abbrev pub record_number : RecordFault → ℕ
record_number (rf.Number f) = number_number f
record_number (rf.Ends p) = 1
record_number (rf.Lead p) = 4

-- where a record is at fault, in which slot: where its number is, or at its lead byte
abbrev pub record_spot : RecordFault → Spot
record_spot (rf.Number f) = number_spot f
record_spot (rf.Ends p) = p
record_spot (rf.Lead p) = p

-- the byte of that spot
abbrev pub record_place : RecordFault → ℕ
record_place f = (record_spot f).place

-- a fault of the head's numbers or of a record; 1: the sheet ends in its head; 2: a wrong byte of the opening; 4: a flag of the avoided value neither 0 nor 1; 6: bytes follow the last slot
abbrev pub fault_number : SheetFault → ℕ
fault_number (sf.Ends at) = 1
fault_number (sf.Opening at) = 2
fault_number (sf.Flag at) = 4
fault_number (sf.Head f) = number_number f
fault_number (sf.Slot f) = record_number f
fault_number (sf.After at) = 6

-- the byte at which the sheet is at fault, or the sheet's length where it ends too early
abbrev pub fault_place : SheetFault → ℕ
fault_place (sf.Ends at) = at
fault_place (sf.Opening at) = at
fault_place (sf.Flag at) = at
fault_place (sf.Head f) = number_place f
fault_place (sf.Slot f) = record_place f
fault_place (sf.After at) = at

-- the slot in which the fault stands; the head, and what comes after the last slot, are in none and go by the number after the last slot's
abbrev pub fault_slot : SheetFault → ℕ
fault_slot (sf.Ends at) = HEAD
fault_slot (sf.Opening at) = HEAD
fault_slot (sf.Flag at) = HEAD
fault_slot (sf.Head f) = (number_spot f).slot
fault_slot (sf.Slot f) = (record_spot f).slot
fault_slot (sf.After at) = HEAD

-- the line of a refused sheet: !, number, place, one space apart
abbrev pub fault_text : SheetFault → List ℕ
fault_text f = refusal_mark ∷ space ∷ (decimal (fault_number f) ++ (space ∷ decimal (fault_place f)))
