-- The four laws that every rulebook keeps, for all figures that 228 reported slots can give.
use Rattle.std.specs.Prelude.{◌≡◌, ◌≤◌, ⊤, ℤ, pos, ◌*ℤ◌, ◌≤ℤ◌, ◌<ℤ◌, IsSome, Some, None, Option, ◌≢◌}
use Rattle.std.specs.Option.{option_map}
use Rattle.figures.specs.Components.{side_in, turnover, volume}
use Rattle.figures.specs.Gathering.{AreFiguresOf, SomeCounts}
use Rattle.figures.specs.Spans.{greater, lesser, lowest_cents, highest_cents}
use Rattle.figures.specs.declared.quarter_figures.Figures.{Figures}
use Rattle.figures.specs.declared.span.Span.{Span}
use Rattle.source.specs.Directions.{toward}
use Rattle.source.specs.Meanings.{Meaning}
use Rattle.source.specs.declared.direction.Direction.{Direction}
use Rattle.source.specs.declared.direction.Direction.TheVariants.{Up, Down}
use Rattle.units.specs.Exact.{Exact}
use Rattle.units.specs.declared.bounds.TheConstants.{MOST_DENOMINATOR}
use Rattle.units.specs.declared.price.Price.{Price}
use Rattle.pricing.specs.Outcomes.{Outcome, avoided, directed, net_of}
use Rattle.pricing.specs.declared.ruling.Net.{Net}

-- 1: a deciding net of 0 gives avoided, one above 0 up or avoided, one below 0 down or avoided
abbrev pub IsInNetsDirection : ℤ → Outcome → Type 0
IsInNetsDirection z avoided = ⊤
IsInNetsDirection z (directed Up q) = pos 0 <ℤ z
IsInNetsDirection z (directed Down q) = z <ℤ pos 0

-- 2: where any slot counts in the direction of the deciding net, of whatever source gives the figures, the result is not avoided
abbrev pub IsNotAvoidedWhereCounting : ℤ → Figures → Outcome → Type 0
IsNotAvoidedWhereCounting z f o = (m : Meaning) (d : Direction) → AreFiguresOf m f → toward z ≡ Some d → SomeCounts d m.slots → o ≢ avoided

-- the lowest and the highest of some prices, moved out to one price more where that is more extreme: for up the highest, for down the lowest
abbrev pub reaching : Direction → Price → Span → Span
reaching Up v s = record { lowest = s.lowest; highest = greater v s.highest }
reaching Down v s = record { lowest = lesser v s.lowest; highest = s.highest }

-- the prices between which a price of the direction may lie: the lowest and the highest formed, and beyond them as far as v, where there is one
abbrev pub outer_span : Direction → Option Price → Option Span → Option Span
outer_span d None formed = formed
outer_span d (Some v) formed = option_map (reaching d v) formed

-- there are prices, the denominator D is from 1 to 9,000,000,000, and N / D lies between the lowest and the highest of them
pub record LiesWithin (f : Option Span) (q : Exact) : Type 0 where
  pub formed : IsSome f
  pub divides : 1 ≤ q.d
  pub bounded_denominator : q.d ≤ MOST_DENOMINATOR
  pub low : (lowest_cents f *ℤ pos q.d) ≤ℤ q.n
  pub high : q.n ≤ℤ (highest_cents f *ℤ pos q.d)

-- where a direction is given, a price is formed in it, and N / D lies within the formed prices, or beyond them as far as v, where there is one
abbrev pub IsFromFormedTo : Option Price → Figures → Outcome → Type 0
IsFromFormedTo v f avoided = ⊤
IsFromFormedTo v f (directed d q) = LiesWithin (outer_span d v (side_in d f).formed) q

-- 3: where a direction is given, a price is formed in it, D is from 1 to 9,000,000,000, and N / D lies between the least extreme of the formed prices and the extreme of them and the avoided value
abbrev pub IsFromFormedOrAvoided : Figures → Outcome → Type 0
IsFromFormedOrAvoided f o = IsFromFormedTo f.avoided f o

-- what the five rulebooks keep beside that law: where a direction is given, N / D lies within the prices formed in it alone
abbrev pub IsFromFormed : Figures → Outcome → Type 0
IsFromFormed f o = IsFromFormedTo None f o

-- a is no more extreme than b: at most as great for up, at least as great for down
abbrev pub IsNoMoreExtreme : Direction → ℤ → ℤ → Type 0
IsNoMoreExtreme Up a b = a ≤ℤ b
IsNoMoreExtreme Down a b = b ≤ℤ a

-- 4: the price is no less extreme than the weighted mean: S × D is at most N × V for up, at least for down
abbrev pub IsNoLessExtremeThanMean : Figures → Outcome → Type 0
IsNoLessExtremeThanMean f avoided = ⊤
IsNoLessExtremeThanMean f (directed d q) = IsNoMoreExtreme d (turnover (side_in d f) *ℤ pos q.d) (q.n *ℤ pos (volume (side_in d f)))

-- the four laws, for the outcome that a rulebook with this deciding net has for the figures
pub record KeepsLaws (net : Net) (f : Figures) (o : Outcome) : Type 0 where
  pub direction : IsInNetsDirection (net_of net f) o
  pub counting : IsNotAvoidedWhereCounting (net_of net f) f o
  pub formed : IsFromFormedOrAvoided f o
  pub mean : IsNoLessExtremeThanMean f o
