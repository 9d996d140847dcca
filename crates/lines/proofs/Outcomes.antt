-- A line under a rulebook prints what the rulebook decides.
use Rattle.std.proofs.Common.{◌≡◌, ℕ, Some, None, Option, arith}
use Rattle.pricing.specs.Outcomes.{Outcome, avoided, directed}
use Rattle.units.specs.declared.price.Price.{Price}
use Rattle.lines.specs.Answers.{IsLine}
use Rattle.lines.specs.Texts.{line_text, outcome_text}
use Rattle.lines.specs.declared.line.Line.{Line}

pub outcome_printed : (code : ℕ) (o : Outcome) (a : Option Price) (l : Line) → IsLine code o a l → line_text l ≡ outcome_text code o a
outcome_printed code (directed d q) a l p = grind (arith, p.under, p.quote.is, p.quote.at)
outcome_printed code avoided (Some v) l p = grind (arith, p.under, p.quote)
outcome_printed code avoided None l p = grind (arith, p.under, p.quote)
