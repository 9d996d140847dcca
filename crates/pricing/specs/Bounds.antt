-- Between which prices a quote lies.
use Rattle.std.specs.Prelude.{◌≡◌, ℤ, pos, ◌+ℤ◌, ◌-ℤ◌, ◌*ℤ◌, ◌≤ℤ◌, IfOk, IsSome, Some, Option}
use Rattle.figures.specs.Components.{turnover, volume}
use Rattle.figures.specs.Gathering.{AreFiguresOf}
use Rattle.figures.specs.Spans.{lowest_cents, highest_cents}
use Rattle.figures.specs.declared.quarter_figures.Figures.{Figures}
use Rattle.figures.specs.declared.side.Side.{Side}
use Rattle.source.specs.Meanings.{Meaning}
use Rattle.source.specs.declared.direction.Direction.{Direction}
use Rattle.source.specs.declared.direction.Direction.TheVariants as dir
use Rattle.units.specs.declared.price.Price.{Price}
use Rattle.pricing.specs.FourLaws.{outer_span}
use Rattle.pricing.specs.Quotes.{Answer}
use Rattle.pricing.specs.declared.quote.Quote.{Quote}
use Rattle.pricing.specs.declared.quote.QuoteDirection.{QuoteDirection}
use Rattle.pricing.specs.declared.quote.QuoteDirection.TheVariants.{Up, Down, Avoided}

-- an up price of p cents is at most half a cent below S / V, so 2 S ≤ (2 p + 1) V; a down price is at most half a cent above it
abbrev pub HalfCentFromMean : Direction → Side → ℤ → Type 0
HalfCentFromMean dir.Up s p = (turnover s *ℤ pos 2) ≤ℤ (((p *ℤ pos 2) +ℤ pos 1) *ℤ pos (volume s))
HalfCentFromMean dir.Down s p = (((p *ℤ pos 2) -ℤ pos 1) *ℤ pos (volume s)) ≤ℤ (turnover s *ℤ pos 2)

-- a price is formed in the direction; p cents lie between the lowest and the highest such, or beyond them as far as v, where there is one; and they are at most half a cent less extreme than the weighted mean
pub record IsBounded (d : Direction) (s : Side) (v : Option Price) (p : ℤ) : Type 0 where
  pub formed : IsSome s.formed
  pub low : lowest_cents (outer_span d v s.formed) ≤ℤ p
  pub high : p ≤ℤ highest_cents (outer_span d v s.formed)
  pub mean : HalfCentFromMean d s p

-- a quote's price lies in the bounds of its direction, as far as v; under A it is the avoided value
abbrev pub IsBoundedTo : Option Price → QuoteDirection → Figures → Price → Type 0
IsBoundedTo v Up f p = IsBounded dir.Up f.up v p.cents
IsBoundedTo v Down f p = IsBounded dir.Down f.down v p.cents
IsBoundedTo v Avoided f p = f.avoided ≡ Some p

-- an answer for figures: where it is a quote, that lies in its bounds, as far as v
abbrev pub IsBoundedQuote : Option Price → Figures → Answer → Type 0
IsBoundedQuote v f a = IfOk a (λ q. IsBoundedTo v q.direction f q.price)

-- a quote lies in the bounds of the figures that a source gives, as far as v
pub record IsBoundedByFigures (v : Option Price) (m : Meaning) (q : Quote) : Type 0 where
  pub figures : Figures
  pub gives : AreFiguresOf m figures
  pub bounded : IsBoundedTo v q.direction figures q.price

-- an answer for a source: where it is a quote, that lies in its bounds, as far as v
abbrev pub IsBoundedQuoteOfSource : Option Price → Meaning → Answer → Type 0
IsBoundedQuoteOfSource v m a = IfOk a (IsBoundedByFigures v m)
