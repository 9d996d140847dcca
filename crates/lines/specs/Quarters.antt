-- The lines of what is answered of a sheet.
use Rattle.std.specs.Prelude.{ℕ, List, [], ◌∷◌, ◌++◌, Ok, Err, Result}
use Rattle.pricing.specs.FiveQuotes.{code_under}
use Rattle.pricing.specs.Quotes.{Answer}
use Rattle.pricing.specs.declared.codes.FiveQuotes.{FiveQuotes}
use Rattle.pricing.specs.declared.codes.Terms.{Terms}
use Rattle.sheet.specs.Marks.{line_end}
use Rattle.sheet.specs.Faults.{fault_text}
use Rattle.sheet.specs.declared.fault.SheetFault.{SheetFault}
use Rattle.lines.specs.Texts.{answer_text}
use Rattle.lines.specs.declared.quarter_lines.QuarterLines.{QuarterLines}

-- the quote or the refusal under each rulebook, in the order of the codes
abbrev pub answers_by_code : FiveQuotes → List Answer
answers_by_code q = q.weighted_average ∷ q.combined_automatic ∷ q.combined_all ∷ q.max_min ∷ q.finnish ∷ []

-- the line of the rulebook of this code, under the terms
abbrev pub line_under : Terms → ℕ → Answer → List ℕ
line_under t code a = answer_text (code_under t code) a

-- the lines of the five rulebooks under the terms, in the order of the codes
abbrev pub five_text : Terms → FiveQuotes → List ℕ
five_text t q =
    line_under t 1 q.weighted_average ++ (line_under t 2 q.combined_automatic ++ (line_under t 3 q.combined_all ++
    (line_under t 4 q.max_min ++ line_under t 5 q.finnish)))

-- the line of a sheet's fault
abbrev pub fault_line : SheetFault → List ℕ
fault_line f = fault_text f ++ (line_end ∷ [])

-- the lines of the five quotes, or that of the sheet's fault
abbrev pub printed : Terms → Result FiveQuotes SheetFault → List ℕ
printed t (Ok q) = five_text t q
printed t (Err f) = fault_line f

-- what the lines of a quarter print
abbrev pub lines_text : QuarterLines → List ℕ
lines_text l = printed l.terms l.answer
