-- Each component comes from the prices formed in its direction.
use Rattle.std.specs.Prelude.{◌≡◌, ℕ, zero, suc, ◌+◌, ◌≤◌, true, ℤ, pos, ◌+ℤ◌, ◌*ℤ◌, ◌≤ℤ◌, is_some, Some, None, Option, nat_lt, refl}
use Rattle.std.proofs.Common.{sym, subst, arith}
use borrow.Author.Differences.{ints}
use Rattle.std.proofs.lemmas.Bool.{cond_both, ltb-true}
use Rattle.std.specs.Option.{option_map}
use Rattle.figures.proofs.Gathered.{scaled}
use Rattle.figures.specs.Components.{cents_of, Component, automatic_mean, counting_price, cycles_extreme, extreme_of_span, formed_price, manual_extreme, quotient, turnover, volume, weighted_mean, manual_turnover}
use Rattle.figures.specs.Spans.{lowest_cents, highest_cents}
use Rattle.figures.specs.declared.side.Manual.{Manual}
use Rattle.figures.specs.declared.side.Side.{Side}
use Rattle.figures.specs.declared.span.Span.{Span}
use Rattle.figures.proofs.Counted.{by_part}
use Rattle.figures.proofs.Sound.{Between, CyclesAre, ManualSound, Sound}
use Rattle.source.specs.declared.direction.Direction.{Direction}
use Rattle.source.specs.declared.direction.Direction.TheVariants.{Up, Down}
use Rattle.units.specs.Exact.{Exact, exact_of_price}
use Rattle.units.specs.declared.bounds.TheConstants.{MOST_DENOMINATOR}
use Rattle.units.specs.declared.price.Price.{Price}
use Rattle.pricing.specs.FourLaws.{LiesWithin}
use Rattle.pricing.specs.laws.Reach.{Reach, WhereExists, cross, extreme_keeps}
use Rattle.pricing.specs.laws.Covers.{no_turnover}

-- x / v lies between the least and the greatest price of f, also where v and x are 0
abbrev pub Lies : Option Span → ℤ → ℕ → Type 0
Lies f x v = ((lowest_cents f *ℤ pos v) ≤ℤ x) × (x ≤ℤ (highest_cents f *ℤ pos v))

lies_add : (f : Option Span) (x y : ℤ) (v w : ℕ) → Lies f x v → Lies f y w → Lies f (x +ℤ y) (v + w)
lies_add f x y v w h g = (omega (arith, ints, h.0, g.0), omega (arith, ints, h.1, g.1))

swapped : (v : ℕ) (p : ℤ) → pos v *ℤ p ≡ p *ℤ pos v
swapped v p = omega (arith, ints)

between_lies : (f : Option Span) (p : ℤ) (v : ℕ) → Between f p → Lies f (pos v *ℤ p) v
between_lies f p v b = subst (λ x. Lies f x v) (sym (swapped v p)) (scaled (lowest_cents f) p v b.1, scaled p (highest_cents f) v b.2)

zero_lies : (f : Option Span) (x : ℤ) → x ≡ pos 0 → Lies f x 0
zero_lies f x e = (omega (arith, ints), omega (arith, ints))

manual_lies : (f : Option Span) (v : ℕ) (p : ℤ) → (1 ≤ v → Between f p) → Lies f (pos v *ℤ p) v
manual_lies f zero p h = zero_lies f (pos 0 *ℤ p) (omega (arith, ints))
manual_lies f (suc v) p h = between_lies f p (suc v) (h (omega arith))

pub manual_turnover_lies : (f : Option Span) (m : Manual) → ManualSound f m → Lies f (manual_turnover m) m.volume
manual_turnover_lies f m s = manual_lies f m.volume (cents_of m.price) (λ k. s.2 (s.1 k))

pub cycles_lies : (most : ℕ) (f : Option Span) (v : ℕ) (x : ℤ) (o : Option Span) → CyclesAre most f v x o → Lies f x v
cycles_lies most f zero x o s = zero_lies f x (no_turnover most f 0 x o s refl)
cycles_lies most f (suc v) x o s =
    let k = s.2 (s.1 (omega arith)) in
    let l = scaled (lowest_cents f) (lowest_cents o) (suc v) k.0.1 in
    let h = scaled (highest_cents o) (highest_cents f) (suc v) k.1.2 in
    (omega (arith, ints, s.3), omega (arith, ints, s.4))

pub turnover_lies : (s : Side) → Sound s → Lies s.formed (turnover s) (volume s)
turnover_lies s h =
    let f = s.formed in
    lies_add f s.cycles.turnover _ s.cycles.volume _ (cycles_lies _ f s.cycles.volume s.cycles.turnover s.cycles.span h.0)
    (lies_add f (manual_turnover s.scheduled) _ s.scheduled.volume _ (manual_turnover_lies f s.scheduled h.1)
    (lies_add f (manual_turnover s.direct_up) (manual_turnover s.direct_down) s.direct_up.volume s.direct_down.volume
    (manual_turnover_lies f s.direct_up h.2) (manual_turnover_lies f s.direct_down h.3)))

-- ---- where something counts, prices are formed
cycles_formed : (s : Side) → Sound s → 1 ≤ s.cycles.volume → is_some s.formed ≡ true
cycles_formed s h k = (h.0.2 (h.0.1 k)).0.0

manual_formed_lem : (f : Option Span) (m : Manual) → ManualSound f m → 1 ≤ m.volume → is_some f ≡ true
manual_formed_lem f m s k = (s.2 (s.1 k)).0

pub volume_formed : (s : Side) → Sound s → 1 ≤ volume s → is_some s.formed ≡ true
volume_formed s h k = by_part _ s k (cycles_formed s h) (manual_formed_lem _ s.scheduled h.1) (manual_formed_lem _ s.direct_up h.2) (manual_formed_lem _ s.direct_down h.3)

-- ---- the components
pub quotient_fits : (f : Option Span) (x : ℤ) (v : ℕ) → (1 ≤ v → is_some f ≡ true) → v ≤ MOST_DENOMINATOR → Lies f x v → WhereExists (LiesWithin f) (quotient x v)
quotient_fits f x v some few l =
    cond_both (nat_lt 0 v) (Some (record { n = x; d = v })) None (WhereExists (LiesWithin f))
    (λ e. let k : 1 ≤ v = ltb-true 0 v e in record { formed = some k; divides = k; bounded_denominator = few; low = l.0; high = l.1 })
    (λ e. tt)

pub mean_fits : (s : Side) → Sound s → WhereExists (LiesWithin s.formed) (weighted_mean s)
mean_fits s h = quotient_fits s.formed (turnover s) (volume s) (volume_formed s h) (omega (arith, h.0.0, h.1.0, h.2.0, h.3.0)) (turnover_lies s h)

pub automatic_fits : (s : Side) → Sound s → WhereExists (LiesWithin s.formed) (automatic_mean s)
automatic_fits s h =
    quotient_fits s.formed s.cycles.turnover s.cycles.volume (cycles_formed s h) (omega (arith, h.0.0))
    (cycles_lies _ s.formed s.cycles.volume s.cycles.turnover s.cycles.span h.0)

whole_fits : (f : Option Span) (p : Price) → Between f p.cents → LiesWithin f (exact_of_price p)
whole_fits f p b = record { formed = b.0; divides = omega arith; bounded_denominator = omega arith; low = omega (arith, ints, b.1); high = omega (arith, ints, b.2) }

-- a price that is as extreme as one between the lowest and the highest, and no more extreme than all, lies between them too
pub price_within : (d : Direction) (s : Span) (m : Exact) (p : Price) → LiesWithin (Some s) m → Reach d m (exact_of_price p) → Reach d (exact_of_price p) (extreme_of_span d s) → LiesWithin (Some s) (exact_of_price p)
price_within Up s m p w h g = whole_fits (Some s) p (refl, omega (arith, ints, cross s.lowest.cents m.n p.cents 1 m.d 1 w.divides (omega (arith, ints, w.low)) h), omega (arith, ints, g))
price_within Down s m p w h g = whole_fits (Some s) p (refl, omega (arith, ints, g), omega (arith, ints, cross p.cents m.n s.highest.cents 1 m.d 1 w.divides h (omega (arith, ints, w.high))))

price_fits : (f : Option Span) (o : Option Price) → (is_some o ≡ true → Between f (cents_of o)) → WhereExists (LiesWithin f) (option_map exact_of_price o)
price_fits f None h = tt
price_fits f (Some p) h = whole_fits f p (h refl)

pub formed_fits : (f : Option Span) (m : Manual) → ManualSound f m → WhereExists (LiesWithin f) (formed_price m)
formed_fits f m s = price_fits f m.price s.2

pub counting_fits : (f : Option Span) (m : Manual) → ManualSound f m → WhereExists (LiesWithin f) (counting_price m)
counting_fits f m s = cond_both (nat_lt 0 m.volume) (formed_price m) None (WhereExists (LiesWithin f)) (λ e. formed_fits f m s) (λ e. tt)

span_fits : (d : Direction) (f o : Option Span) → (is_some o ≡ true → Between f (lowest_cents o) × Between f (highest_cents o)) → WhereExists (LiesWithin f) (option_map (extreme_of_span d) o)
span_fits d f None h = tt
span_fits Up f (Some p) h = whole_fits f p.highest (h refl).1
span_fits Down f (Some p) h = whole_fits f p.lowest (h refl).0

pub cycles_fit : (d : Direction) (s : Side) → Sound s → WhereExists (LiesWithin s.formed) (cycles_extreme d s)
cycles_fit d s h = span_fits d s.formed s.cycles.span h.0.2

pub over_fits : (price : Manual → Component) (d : Direction) (s : Side) → ((m : Manual) → ManualSound s.formed m → WhereExists (LiesWithin s.formed) (price m)) → Sound s → WhereExists (LiesWithin s.formed) (manual_extreme price d s)
over_fits price d s p h =
    extreme_keeps (LiesWithin s.formed) d _ _ (p s.scheduled h.1) (extreme_keeps (LiesWithin s.formed) d _ _ (p s.direct_up h.2) (p s.direct_down h.3))
