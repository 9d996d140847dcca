-- The incentive component over a rulebook: its code, and what it decides.
use Rattle.std.specs.Prelude.{ℕ, ◌+◌, min, Some, Option}
use Rattle.std.specs.Option.{option_map}
use Rattle.figures.specs.Components.{extreme}
use Rattle.figures.specs.declared.quarter_figures.Figures.{Figures}
use Rattle.units.specs.Exact.{exact_of_price}
use Rattle.units.specs.declared.price.Price.{Price}
use Rattle.pricing.specs.Outcomes.{Outcome, avoided, directed, outcome_at}

-- ten above the code of the rulebook below, 65,535 at most
abbrev pub code_above : ℕ → ℕ
code_above code = min (code + 10) 65_535

-- in a direction the extreme of the exact price and the avoided value, where there is one; avoided stays avoided
abbrev pub with_incentive : Option Price → Outcome → Outcome
with_incentive value avoided = avoided
with_incentive value (directed d q) = outcome_at d (extreme d (Some q) (option_map exact_of_price value))

-- what the layer decides, from the ruling below and the avoided value of the figures
abbrev pub incentive : (Figures → Outcome) → Figures → Outcome
incentive below f = with_incentive f.avoided (below f)
