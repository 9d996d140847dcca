-- Writing and reading undo each other.
use Rattle.std.specs.Prelude.{◌≡◌, ℕ, ◌<◌, List, Ok}
use Rattle.std.specs.List.{AllByRecursion}
use Rattle.sheet.specs.Sheets.{first_fault, sheet_meaning}
use Rattle.source.specs.Meanings.{Meaning}
use Rattle.source.specs.declared.slot.TheConstants.{SLOTS}
use Rattle.writing.specs.Bytes.{sheet_bytes}

-- two sources tell the same: the same 228 slots, zone net and avoided value
pub record TellsSame (m n : Meaning) : Type 0 where
  pub slots : (k : ℕ) → k < SLOTS → m.slots k ≡ n.slots k
  pub zones : m.zone ≡ n.zone
  pub values : m.avoided ≡ n.avoided

-- the sheet written of what a source means has no fault, and tells that source
pub record TellsBack (m : Meaning) : Type 0 where
  pub sound : first_fault (sheet_bytes m) ≡ Ok tt
  pub alike : TellsSame (sheet_meaning (sheet_bytes m)) m

-- an accepted sheet, rewritten from a source that means what it tells, has the same bytes
abbrev pub SameBytes : Meaning → Type 0
SameBytes m = (b : List ℕ) → AllByRecursion (λ x. x < 256) b → first_fault b ≡ Ok tt → TellsSame (sheet_meaning b) m → sheet_bytes m ≡ b
