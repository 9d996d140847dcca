-- What a rulebook decides: avoided, or a direction with an exact price.
use Rattle.std.specs.Prelude.{ℤ, Some, None, Option}
use Rattle.figures.specs.Components.{Component}
use Rattle.figures.specs.declared.quarter_figures.Figures.{Figures}
use Rattle.source.specs.Directions.{toward}
use Rattle.source.specs.declared.direction.Direction.{Direction}
use Rattle.units.specs.Exact.{Exact, exact_of}
use Rattle.pricing.specs.declared.ruling.Net.{Net}
use Rattle.pricing.specs.declared.ruling.Net.TheVariants.{Local, Zone}
use Rattle.pricing.specs.declared.ruling.DirectedPrice.{DirectedPrice}

-- what a rulebook decides for a set of figures
pub data Outcome : Type 0 where
  avoided : Outcome
  directed : Direction → Exact → Outcome

-- what a ruling of the code stands for
abbrev pub outcome_of : Option DirectedPrice → Outcome
outcome_of None = avoided
outcome_of (Some p) = directed p.direction (exact_of p.price)

-- the net that decides, in kW
abbrev pub net_of : Net → Figures → ℤ
net_of Local f = f.local_net
net_of Zone f = f.zone_net.kw

-- a direction with its exact price; avoided where there is no price
abbrev pub outcome_at : Direction → Component → Outcome
outcome_at d None = avoided
outcome_at d (Some q) = directed d q

-- the price in the direction, if there is one; avoided where there is no direction
abbrev pub decided_in : Option Direction → (Direction → Component) → Outcome
decided_in None price = avoided
decided_in (Some d) price = outcome_at d (price d)

-- by the deciding net the price in its direction; avoided where the net is 0
abbrev pub decided : ℤ → (Direction → Component) → Outcome
decided z price = decided_in (toward z) price
