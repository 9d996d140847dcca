-- The text that is printed of a sheet's records, a line for each.
use Rattle.std.specs.Prelude.{ℕ, ◌+◌, ◌/◌, ◌%◌, List, [], ◌∷◌, ◌++◌, Ok, Err, decimal, flat_map, Result}
use Rattle.std.specs.Char.{digit_char}
use Rattle.sheet.specs.Marks.{line_end, space}
use Rattle.sheet.specs.Readers.{RecordOrFault, RecordParts, records_of_sheet}
use Rattle.sheet.specs.declared.fault.SheetFault.{SheetFault}
use Rattle.lines.specs.Quarters.{fault_line}

-- the two hexadecimal digits of a byte
abbrev pub hex_text : ℕ → List ℕ
hex_text b = digit_char (b / 16) ∷ digit_char (b % 16) ∷ []

-- the byte that stands for no bytes, -
abbrev pub dash : ℕ
dash = 0x2D

-- bytes in hexadecimal, or a - where there are none
abbrev pub body_text : List ℕ → List ℕ
body_text [] = dash ∷ []
body_text (b ∷ bs) = flat_map hex_text (b ∷ bs)

-- the line of a record: its slot, its place, its lead byte and the bytes after that
abbrev pub record_text : ℕ → RecordParts → List ℕ
record_text slot r = decimal slot ++ (space ∷ (decimal r.place ++ (space ∷ (decimal r.lead ++ (space ∷ (body_text r.body ++ (line_end ∷ [])))))))

-- the line of what is handed out for a slot: a record's, or a fault's
abbrev pub handed_text : ℕ → RecordOrFault → List ℕ
handed_text slot (Ok r) = record_text slot r
handed_text slot (Err f) = fault_line f

-- the lines of all that is handed out from a slot on
abbrev pub all_text : ℕ → List RecordOrFault → List ℕ
all_text slot [] = []
all_text slot (x ∷ xs) = handed_text slot x ++ all_text (slot + 1) xs

-- the lines of what is handed out of a sheet, or of the fault of its head
abbrev pub reading_text : Result (List RecordOrFault) SheetFault → List ℕ
reading_text (Ok xs) = all_text 0 xs
reading_text (Err f) = fault_line f

-- the lines of the records of a sheet, and that of its first fault, if it has one
abbrev pub records_text : List ℕ → List ℕ
records_text s = reading_text (records_of_sheet s)
