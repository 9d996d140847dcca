-- Printing and reading undo each other.
use Rattle.std.specs.Prelude.{◌≡◌, ℕ, ◌<◌, List, Ok}
use Rattle.std.specs.List.{AllByRecursion}
use Rattle.sheet.specs.Sheets.{first_fault, sheet_meaning}
use Rattle.source.specs.Meanings.{Meaning}
use Rattle.writing.specs.Bytes.{sheet_bytes}
use Rattle.writing.specs.Trips.{TellsSame}
use Rattle.quarter_text.specs.Drafts.{quarter_of}
use Rattle.quarter_text.specs.Quarters.{meaning_of}
use Rattle.quarter_text.specs.Texts.{text_of}
use Rattle.quarter_text.specs.declared.quarter.TextQuarter.{TextQuarter}

-- the text of what a source means is read, and tells that source
pub record ReadsBack (m : Meaning) : Type 0 where
  pub quarter : TextQuarter
  pub read : quarter_of (text_of m) ≡ Ok quarter
  pub alike : TellsSame (meaning_of quarter) m

-- an accepted sheet whose text is read and written again has the same bytes
abbrev pub SameSheetThroughText : Meaning → Type 0
SameSheetThroughText m = (b : List ℕ) → AllByRecursion (λ x. x < 256) b → first_fault b ≡ Ok tt → TellsSame (sheet_meaning b) m → (q : TextQuarter) → quarter_of (text_of m) ≡ Ok q → sheet_bytes (meaning_of q) ≡ b
