-- What is answered of figures and of a sheet, and what is printed of a sheet.
use Rattle.std.specs.Prelude.{◌≡◌, ℕ, List, Option}
use Rattle.pricing.specs.FiveQuotes.{AreQuotesUnlessFault}
use Rattle.pricing.specs.Outcomes.{Outcome}
use Rattle.pricing.specs.Quotes.{IsQuote}
use Rattle.pricing.specs.declared.codes.Terms.{Terms}
use Rattle.sheet.specs.Sheets.{first_fault, sheet_meaning}
use Rattle.units.specs.declared.price.Price.{Price}
use Rattle.lines.specs.Quarters.{lines_text}
use Rattle.lines.specs.declared.line.Line.{Line}
use Rattle.lines.specs.declared.quarter_lines.QuarterLines.{QuarterLines}

-- the line of what a rulebook decides, with the avoided value: the rulebook's code, and the quote or its refusal
pub record IsLine (code : ℕ) (o : Outcome) (a : Option Price) (l : Line) : Type 0 where
  pub under : l.code ≡ code
  pub quote : IsQuote code o a l.answer

-- the answer to a sheet: its first fault; where it has none, under each rulebook and the terms the quote of what the sheet tells, or its refusal
pub record IsAnswer (t : Terms) (s : List ℕ) (l : QuarterLines) : Type 0 where
  pub terms : l.terms ≡ t
  pub quotes : AreQuotesUnlessFault (first_fault s) t (sheet_meaning s) l.answer

-- the text that is printed of a sheet under the terms: that of its answer
pub record IsPrinted (t : Terms) (s text : List ℕ) : Type 0 where
  pub lines : QuarterLines
  pub answer : IsAnswer t s lines
  pub is : text ≡ lines_text lines
