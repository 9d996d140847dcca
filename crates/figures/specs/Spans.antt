-- The lowest and the highest of some prices.
use Rattle.std.specs.Prelude.{ℤ, pos, Some, None, Option, int_lt, if◌then◌else◌}
use Rattle.figures.specs.declared.span.Span.{Span}
use Rattle.units.specs.declared.price.Price.{Price}

-- the lesser of two prices
abbrev pub lesser : Price → Price → Price
lesser p q = if int_lt q.cents p.cents then q else p

-- the greater of two prices
abbrev pub greater : Price → Price → Price
greater p q = if int_lt q.cents p.cents then p else q

-- the lowest and the highest, with one price more
abbrev pub widened : Price → Option Span → Span
widened p None = record { lowest = p; highest = p }
widened p (Some s) = record { lowest = lesser p s.lowest; highest = greater p s.highest }

-- the lowest and the highest, with one price more where it is formed
abbrev pub span_with : Option Price → Option Span → Option Span
span_with None s = s
span_with (Some p) s = Some (widened p s)

-- cents of the lowest price; 0 where there is no price
abbrev pub lowest_cents : Option Span → ℤ
lowest_cents None = pos 0
lowest_cents (Some s) = s.lowest.cents

-- cents of the highest price; 0 where there is no price
abbrev pub highest_cents : Option Span → ℤ
highest_cents None = pos 0
highest_cents (Some s) = s.highest.cents
