-- The weighted mean, and beyond it a reference price.
use Rattle.std.specs.Prelude.{Some, None, Option}
use Rattle.std.specs.Option.{option_map}
use Rattle.figures.specs.Components.{Component, extreme, extreme_of_span, weighted_mean}
use Rattle.figures.specs.declared.span.Span.{Span}
use Rattle.pricing.specs.Rulings.{PriceRule}
use Rattle.source.specs.Directions.{picked}
use Rattle.source.specs.declared.direction.Direction.{Direction}
use Rattle.source.specs.declared.direction.Direction.TheVariants.{Up, Down}
use Rattle.units.specs.Exact.{exact_of_price}
use Rattle.units.specs.declared.price.Price.{Price}

-- the other direction
abbrev pub opposite : Direction → Direction
opposite d = picked d Down Up

-- the reference price, no further than the prices formed: for up the lesser of it and the highest, for down the greater of it and the lowest
abbrev pub reference_within : Price → Direction → Option Span → Component
reference_within p d formed = extreme (opposite d) (Some (exact_of_price p)) (option_map (extreme_of_span d) formed)

-- where the mean exists, the extreme of it and a reference
abbrev pub mean_or_reference : Direction → Component → Component → Component
mean_or_reference d None reference = None
mean_or_reference d (Some mean) reference = extreme d (Some mean) reference

-- the extreme of the weighted mean and the reference price
abbrev pub reference_price : Price → PriceRule
reference_price p d s = mean_or_reference d (weighted_mean s) (reference_within p d s.formed)
