-- The bounds of a quote follow from the laws and from the rounding.
use Rattle.std.proofs.Common.{◌≡◌, ℕ, ◌+◌, ◌*◌, ◌≤◌, true, Some, None, Option, is_some, refl, subst, sym, ℤ, pos, ◌+ℤ◌, ◌-ℤ◌, ◌*ℤ◌, ◌≤ℤ◌, ap, arith}
use borrow.Author.Differences.{ints, up, down}
use Rattle.figures.specs.Components.{side_in, turnover, volume}
use Rattle.figures.specs.Spans.{lowest_cents, highest_cents}
use Rattle.figures.specs.declared.quarter_figures.Figures.{Figures}
use Rattle.figures.specs.declared.side.Side.{Side}
use Rattle.figures.specs.declared.span.Span.{Span}
use Rattle.source.specs.declared.direction.Direction.{Direction}
use Rattle.source.specs.declared.direction.Direction.TheVariants.{Up, Down}
use Rattle.units.specs.Exact.{Exact}
use Rattle.units.proofs.Rounds.{keeps_bounds, nearest_rounded}
use Rattle.units.specs.Rounding.{Nearest, rounded}
use Rattle.units.specs.declared.price.Price.{Price}
use Rattle.pricing.specs.Bounds.{IsBoundedQuote, IsBoundedTo, HalfCentFromMean}
use Rattle.pricing.specs.FourLaws.{IsFromFormedTo, IsNoLessExtremeThanMean, IsNoMoreExtreme, LiesWithin, outer_span}
use Rattle.pricing.specs.Outcomes.{Outcome, avoided, directed}
use Rattle.pricing.specs.Quotes.{Answer, IsQuote, quoted_direction}
use Rattle.pricing.specs.laws.Reach.{cross}

-- n / d is at most half a cent above p, and at most half a cent below
near_above : (n p : ℤ) (d : ℕ) → Nearest n d p → (n *ℤ pos 2) ≤ℤ (((p *ℤ pos 2) +ℤ pos 1) *ℤ pos d)
near_above n p d h =
    let z = (p *ℤ pos 2) +ℤ pos 1 in
    let e : up z + 2 * down p ≡ down z + 2 * up p + 1 = omega (arith, ints) in
    omega (arith, ints, h.close, ap (λ k. k * d) e)

near_below : (n p : ℤ) (d : ℕ) → Nearest n d p → (((p *ℤ pos 2) -ℤ pos 1) *ℤ pos d) ≤ℤ (n *ℤ pos 2)
near_below n p d h =
    let z = (p *ℤ pos 2) -ℤ pos 1 in
    let e : up z + 2 * down p + 1 ≡ down z + 2 * up p = omega (arith, ints) in
    omega (arith, ints, h.close, ap (λ k. k * d) e)

half_cent_lem : (d : Direction) (s : Side) (q : Exact) (p : ℤ) → 1 ≤ q.d → Nearest q.n q.d p → IsNoMoreExtreme d (turnover s *ℤ pos q.d) (q.n *ℤ pos (volume s)) → HalfCentFromMean d s p
half_cent_lem Up s q p some near b = cross (turnover s) q.n ((p *ℤ pos 2) +ℤ pos 1) (volume s) q.d 2 some b (near_above q.n p q.d near)
half_cent_lem Down s q p some near b = cross ((p *ℤ pos 2) -ℤ pos 1) q.n (turnover s) 2 q.d (volume s) some (near_below q.n p q.d near) b

-- where a price is formed out to v, it is formed
formed_within : (d : Direction) (v : Option Price) (f : Option Span) → is_some (outer_span d v f) ≡ true → is_some f ≡ true
formed_within d None f h = h
formed_within d (Some v) None h = h
formed_within d (Some v) (Some s) h = refl

-- a price that is rounded keeps the bounds of the exact one, as far as v
directed_bounded : (v : Option Price) (f : Figures) (d : Direction) (q : Exact) (p : Price) → LiesWithin (outer_span d v (side_in d f).formed) q → IsNoMoreExtreme d (turnover (side_in d f) *ℤ pos q.d) (q.n *ℤ pos (volume (side_in d f)))
    → p.cents ≡ rounded q.n q.d → IsBoundedTo v (quoted_direction d) f p
directed_bounded v f d q p within mean at =
    let outer = outer_span d v (side_in d f).formed in
    let near = subst (λ (z : ℤ). Nearest q.n q.d z) (sym at) (nearest_rounded q.n q.d within.divides) in
    let kept = subst (λ (z : ℤ). (lowest_cents outer ≤ℤ z) × (z ≤ℤ highest_cents outer)) (sym at) (keeps_bounds q.n q.d (lowest_cents outer) (highest_cents outer) within.divides within.low within.high) in
    grind (arith, kept, within.formed, formed_within d v (side_in d f).formed, half_cent_lem d (side_in d f) q p.cents within.divides near mean)

-- a quote of what is decided lies in its bounds, as far as v
pub quote_in_bounds : (v : Option Price) (code : ℕ) (f : Figures) (o : Outcome) (r : Answer) → IsFromFormedTo v f o → IsNoLessExtremeThanMean f o → IsQuote code o f.avoided r → IsBoundedQuote v f r
quote_in_bounds v code f o r within mean h = by_outcome o f.avoided within mean refl h
  where
    by_outcome : (o : Outcome) (a : Option Price) → IsFromFormedTo v f o → IsNoLessExtremeThanMean f o → f.avoided ≡ a → IsQuote code o a r → IsBoundedQuote v f r
    by_outcome (directed d q) a within mean e h = subst (IsBoundedQuote v f) (sym h.is) (directed_bounded v f d q h.price within mean h.at)
    by_outcome avoided (Some p) within mean e h = subst (IsBoundedQuote v f) (sym h) e
    by_outcome avoided None within mean e h = subst (IsBoundedQuote v f) (sym h) tt
