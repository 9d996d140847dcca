-- The lowest and the highest price as two plain prices: without a price they are the bounds of a price, crossed.
use Rattle.std.specs.Prelude.{Some, None, Option, int_lt, if◌then◌else◌}
use Rattle.units.specs.Quantities.{lowest_price, highest_price}
use Rattle.units.specs.declared.price.Price.{Price}
use Rattle.figures.specs.declared.span.Span.{Span}

-- the lowest so far; without a price the highest that there may be
abbrev pub lowest_of : Option Span → Price
lowest_of None = highest_price
lowest_of (Some s) = s.lowest

-- the highest so far; without a price the lowest that there may be
abbrev pub highest_of : Option Span → Price
highest_of None = lowest_price
highest_of (Some s) = s.highest

-- the span again: there was a price unless the two are crossed
abbrev pub span_between : Price → Price → Option Span
span_between l h = if int_lt h.cents l.cents then None else Some (record { lowest = l; highest = h })
