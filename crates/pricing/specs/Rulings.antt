-- The exact price of each rulebook, from the components in the net's direction.
use Rattle.std.specs.Prelude.{if◌then◌else◌}
use Rattle.figures.specs.Components.{Component, automatic_mean, counting_price, cycles_extreme, extreme, formed_price, manual_counts, manual_extreme, side_in, weighted_mean}
use Rattle.figures.specs.declared.quarter_figures.Figures.{Figures}
use Rattle.figures.specs.declared.side.Side.{Side}
use Rattle.source.specs.declared.direction.Direction.{Direction}
use Rattle.pricing.specs.Outcomes.{Outcome, decided, net_of}
use Rattle.pricing.specs.declared.ruling.Net.{Net}
use Rattle.pricing.specs.declared.ruling.Net.TheVariants.{Local, Zone}

-- a rulebook's rule of price: the exact price, if there is one, from a direction and its figures
abbrev pub PriceRule : Type 0
PriceRule = Direction → Side → Component

-- 1: the weighted mean
abbrev pub mean_price : PriceRule
mean_price d s = weighted_mean s

-- 2: the extreme of the automatic mean and the counting manual prices
abbrev pub automatic_or_manual : PriceRule
automatic_or_manual d s = extreme d (automatic_mean s) (manual_extreme counting_price d s)

-- 3: the extreme of the weighted mean and the counting manual prices
abbrev pub mean_or_manual : PriceRule
mean_or_manual d s = extreme d (weighted_mean s) (manual_extreme counting_price d s)

-- 4: the extreme of all counting prices
abbrev pub extreme_counting : PriceRule
extreme_counting d s = extreme d (cycles_extreme d s) (manual_extreme counting_price d s)

-- 5: the weighted mean if a manual slot counts, else the extreme of the automatic mean and the formed manual prices
abbrev pub finnish_price : PriceRule
finnish_price d s = if manual_counts s then weighted_mean s else extreme d (automatic_mean s) (manual_extreme formed_price d s)

-- what a rule of price decides in the direction of the deciding net
abbrev pub by_net : Net → PriceRule → Figures → Outcome
by_net net price f = decided (net_of net f) (λ d. price d (side_in d f))

-- what code 1 decides, by the local net
abbrev pub weighted_average : Figures → Outcome
weighted_average f = by_net Local mean_price f

-- what code 2 decides, by the local net
abbrev pub combined_automatic : Figures → Outcome
combined_automatic f = by_net Local automatic_or_manual f

-- what code 3 decides, by the local net
abbrev pub combined_all : Figures → Outcome
combined_all f = by_net Local mean_or_manual f

-- what code 4 decides, by the local net
abbrev pub max_min : Figures → Outcome
max_min f = by_net Local extreme_counting f

-- what code 5 decides, by the zone's net
abbrev pub finnish : Figures → Outcome
finnish f = by_net Zone finnish_price f
