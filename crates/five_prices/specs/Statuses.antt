-- What is made of the answer to a sheet: the slot that is named, and the status.
use Rattle.std.specs.Prelude.{◌≡◌, ℕ, Bool, ◌&&◌, List, Some, None, Ok, Err, Option, Result, if◌then◌else◌, is_err}
use Rattle.std.specs.List.{list_any}
use Rattle.command.specs.declared.program.Status.{Status}
use Rattle.command.specs.declared.program.Status.TheVariants.{Answered, Refused}
use Rattle.lines.specs.Answers.{IsAnswer}
use Rattle.lines.specs.Quarters.{answers_by_code}
use Rattle.lines.specs.declared.quarter_lines.QuarterLines.{QuarterLines}
use Rattle.pricing.specs.Quotes.{Answer}
use Rattle.pricing.specs.declared.codes.FiveQuotes.{FiveQuotes}
use Rattle.pricing.specs.declared.codes.Terms.{Terms}
use Rattle.pricing.specs.declared.fault.QuoteFault.TheVariants.{Unreported, NoAvoidedValue}
use Rattle.sheet.specs.declared.fault.SheetFault.{SheetFault}

-- the slot of an answer that is refused for an unreported one
abbrev pub unreported_slot : Answer → Option ℕ
unreported_slot (Err (Unreported f)) = Some f.slot
unreported_slot (Err NoAvoidedValue) = None
unreported_slot (Ok q) = None

-- a refused sheet is refused data, and so, where it is strict, is a refused quote
abbrev pub status_of_answer : Bool → Result FiveQuotes SheetFault → Status
status_of_answer strict (Err f) = Refused
status_of_answer strict (Ok q) = if strict && list_any is_err (answers_by_code q) then Refused else Answered

-- the status after the answer to a sheet under the terms is printed
pub record IsStatusOfSheet (t : Terms) (strict : Bool) (s : List ℕ) (r : Status) : Type 0 where
  pub lines : QuarterLines
  pub answer : IsAnswer t s lines
  pub is : r ≡ status_of_answer strict lines.answer
