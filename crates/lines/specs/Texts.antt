-- The text of one printed line.
use Rattle.std.specs.Prelude.{ℕ, List, [], ◌∷◌, ◌++◌, ℤ, Some, None, Ok, Err, decimal, Option, Result}
use Rattle.pricing.specs.Outcomes.{Outcome, avoided, directed}
use Rattle.pricing.specs.Quotes.{letter, quoted_direction}
use Rattle.pricing.specs.Refusals.{quote_number}
use Rattle.pricing.specs.declared.fault.QuoteFault.{QuoteFault}
use Rattle.pricing.specs.declared.fault.QuoteFault.TheVariants.{NoAvoidedValue}
use Rattle.pricing.specs.declared.quote.Quote.{Quote}
use Rattle.pricing.specs.declared.quote.QuoteDirection.{QuoteDirection}
use Rattle.pricing.specs.declared.quote.QuoteDirection.TheVariants.{Avoided}
use Rattle.units.specs.Rounding.{rounded}
use Rattle.units.specs.Text.{euros}
use Rattle.units.specs.declared.price.Price.{Price}
use Rattle.sheet.specs.Marks.{line_end, refusal_mark, space}
use Rattle.lines.specs.declared.line.Line.{Line}

-- the line of a quote: the code, the letter of the direction, euros per MWh
abbrev pub quote_text : ℕ → QuoteDirection → ℤ → List ℕ
quote_text code d cents = decimal code ++ (space ∷ letter d ∷ space ∷ (euros cents ++ (line_end ∷ [])))

-- the line of a refusal: the code, !, the number of the refusal
abbrev pub refusal_text : ℕ → ℕ → List ℕ
refusal_text code number = decimal code ++ (space ∷ refusal_mark ∷ space ∷ (decimal number ++ (line_end ∷ [])))

-- the line of what is answered under a code
abbrev pub answer_text : ℕ → Result Quote QuoteFault → List ℕ
answer_text code (Ok q) = quote_text code q.direction q.price.cents
answer_text code (Err e) = refusal_text code (quote_number e)

-- what a line prints
abbrev pub line_text : Line → List ℕ
line_text l = answer_text l.code l.answer

-- the line of what a rulebook decides: the rounded price in its direction, or the avoided value, or that there is none
abbrev pub outcome_text : ℕ → Outcome → Option Price → List ℕ
outcome_text code (directed d q) a = quote_text code (quoted_direction d) (rounded q.n q.d)
outcome_text code avoided (Some p) = quote_text code Avoided p.cents
outcome_text code avoided None = refusal_text code (quote_number NoAvoidedValue)
