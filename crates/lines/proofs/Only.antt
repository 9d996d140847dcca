-- A sheet has at most one answer, and figures have at most one line under a rulebook.
use Rattle.std.proofs.Common.{◌≡◌, ℕ, List, Option, Result, arith}
use Rattle.pricing.proofs.Only as quotes
use Rattle.pricing.proofs.Only.{only_unless_fault}
use Rattle.pricing.specs.Outcomes.{Outcome}
use Rattle.pricing.specs.declared.codes.FiveQuotes.{FiveQuotes}
use Rattle.pricing.specs.declared.codes.Terms.{Terms}
use Rattle.sheet.specs.Sheets.{first_fault, sheet_meaning}
use Rattle.sheet.specs.declared.fault.SheetFault.{SheetFault}
use Rattle.units.specs.declared.price.Price.{Price}
use Rattle.lines.specs.Answers.{IsAnswer, IsLine}
use Rattle.lines.specs.declared.line.Line.{Line}
use Rattle.lines.specs.declared.quarter_lines.QuarterLines.{QuarterLines}

pub only_answer : (t : Terms) (s : List ℕ) (r : Result FiveQuotes SheetFault) → IsAnswer t s (record { terms = t; answer = r }) → (l : QuarterLines) → IsAnswer t s l → l ≡ record { terms = t; answer = r }
only_answer t s r q l p = grind (arith, p.terms, only_unless_fault (first_fault s) t (sheet_meaning s) l.answer r p.quotes q.quotes)

pub only_line : (code : ℕ) (o : Outcome) (a : Option Price) (r : Line) → IsLine code o a r → (l : Line) → IsLine code o a l → l ≡ r
only_line code o a r q l p = grind (arith, p.under, q.under, quotes.only_answer code o a l.answer r.answer p.quote q.quote)
