-- The prices that a rulebook may take: means, and extremes of formed and of counting prices.
use Rattle.std.specs.Prelude.{ℕ, ◌+◌, Bool, ◌||◌, ℤ, pos, ◌+ℤ◌, ◌*ℤ◌, Some, None, Option, nat_lt, if◌then◌else◌}
use Rattle.std.specs.Option.{option_map}
use Rattle.source.specs.declared.direction.Direction.{Direction}
use Rattle.source.specs.declared.direction.Direction.TheVariants.{Up, Down}
use Rattle.units.specs.Exact.{Exact, at_most, exact_of, exact_of_price}
use Rattle.units.specs.declared.price.Price.{Price}
use Rattle.units.specs.declared.ratio.Ratio.{Ratio}
use Rattle.figures.specs.declared.quarter_figures.Figures.{Figures}
use Rattle.figures.specs.declared.side.Manual.{Manual}
use Rattle.figures.specs.declared.side.Side.{Side}
use Rattle.figures.specs.declared.span.Span.{Span}

-- the figures of a direction
abbrev pub side_in : Direction → Figures → Side
side_in Up f = f.up
side_in Down f = f.down

-- V, over the cycles and the manual slots
abbrev pub volume : Side → ℕ
volume s = s.cycles.volume + (s.scheduled.volume + (s.direct_up.volume + s.direct_down.volume))

-- cents of a price; 0 where there is none
abbrev pub cents_of : Option Price → ℤ
cents_of None = pos 0
cents_of (Some p) = p.cents

-- volume times price of a manual slot
abbrev pub manual_turnover : Manual → ℤ
manual_turnover m = pos m.volume *ℤ cents_of m.price

-- S, over the cycles and the manual slots
abbrev pub turnover : Side → ℤ
turnover s = s.cycles.turnover +ℤ (manual_turnover s.scheduled +ℤ (manual_turnover s.direct_up +ℤ manual_turnover s.direct_down))

-- an exact price that may not exist
abbrev pub Component : Type 0
Component = Option Exact

-- the exact price that a fraction of the code stands for, where there is one
abbrev pub component_of : Option Ratio → Component
component_of r = option_map exact_of r

-- x / v where v is above 0
abbrev pub quotient : ℤ → ℕ → Component
quotient x v = if nat_lt 0 v then Some (record { n = x; d = v }) else None

-- the volume-weighted mean of all that counts, S / V
abbrev pub weighted_mean : Side → Component
weighted_mean s = quotient (turnover s) (volume s)

-- the volume-weighted mean of the counting cycles alone
abbrev pub automatic_mean : Side → Component
automatic_mean s = quotient s.cycles.turnover s.cycles.volume

-- a is no more extreme than b: at most as great for up, at least as great for down
abbrev pub no_more_extreme : Direction → Exact → Exact → Bool
no_more_extreme Up a b = at_most a b
no_more_extreme Down a b = at_most b a

-- the greater of two exact prices for up, the lesser for down; one that does not exist is passed over
abbrev pub extreme : Direction → Component → Component → Component
extreme d None b = b
extreme d (Some a) None = Some a
extreme d (Some a) (Some b) = if no_more_extreme d a b then Some b else Some a

-- the highest of some prices for up, the lowest for down
abbrev pub extreme_of_span : Direction → Span → Exact
extreme_of_span Up p = exact_of_price p.highest
extreme_of_span Down p = exact_of_price p.lowest

-- the extreme of the counting cycle prices
abbrev pub cycles_extreme : Direction → Side → Component
cycles_extreme d s = option_map (extreme_of_span d) s.cycles.span

-- the price that is formed in a manual slot, whatever its demand
abbrev pub formed_price : Manual → Component
formed_price m = option_map exact_of_price m.price

-- the price of a manual slot that counts
abbrev pub counting_price : Manual → Component
counting_price m = if nat_lt 0 m.volume then formed_price m else None

-- the extreme over the three manual slots, of the price that is taken of each
abbrev pub manual_extreme : (Manual → Component) → Direction → Side → Component
manual_extreme price d s = extreme d (price s.scheduled) (extreme d (price s.direct_up) (price s.direct_down))

-- whether some manual slot counts
abbrev pub manual_counts : Side → Bool
manual_counts s = nat_lt 0 s.scheduled.volume || (nat_lt 0 s.direct_up.volume || nat_lt 0 s.direct_down.volume)
