-- A price that is as extreme as the components is as extreme as the mean of what they stand for.
use Rattle.std.specs.Prelude.{◌≡◌, ℕ, zero, suc, ◌+◌, ◌*◌, ◌≤◌, true, ℤ, pos, ◌+ℤ◌, ◌*ℤ◌, ◌≤ℤ◌, is_some, Some, None, Option, nat_lt, refl}
use Rattle.std.proofs.Common.{sym, ap, subst, mul-le-mul_right, arith}
use borrow.Author.Differences.{ints, product_is, up, down}
use Rattle.std.proofs.lemmas.Bool.{cond-true, lt-ltb}
use Rattle.std.specs.Option.{option_map}
use Rattle.figures.specs.Components.{cents_of, counting_price, extreme_of_span, formed_price, quotient, manual_turnover}
use Rattle.figures.specs.Spans.{lowest_cents, highest_cents}
use Rattle.figures.specs.declared.side.Manual.{Manual}
use Rattle.figures.specs.declared.span.Span.{Span}
use Rattle.figures.proofs.Sound.{CyclesAre, ManualSound}
use Rattle.source.specs.declared.direction.Direction.{Direction}
use Rattle.source.specs.declared.direction.Direction.TheVariants.{Up, Down}
use Rattle.units.specs.Exact.{Exact, exact_of_price}
use Rattle.units.specs.declared.price.Price.{Price}
use Rattle.pricing.specs.FourLaws.{IsNoMoreExtreme}
use Rattle.pricing.specs.laws.Reach.{Tops}

-- r is as extreme as x / v
abbrev pub Covers : Direction → Exact → ℤ → ℕ → Type 0
Covers d r x v = IsNoMoreExtreme d (x *ℤ pos r.d) (r.n *ℤ pos v)

distributes : (x y : ℤ) (k : ℕ) → (x +ℤ y) *ℤ pos k ≡ (x *ℤ pos k) +ℤ (y *ℤ pos k)
distributes x y k =
    let e : up (x +ℤ y) + (down x + down y) ≡ down (x +ℤ y) + (up x + up y) = omega (arith, ints) in
    omega (arith, ints, ap (λ n. n * k) e)

pub covers_add : (d : Direction) (r : Exact) (x y : ℤ) (v w : ℕ) → Covers d r x v → Covers d r y w → Covers d r (x +ℤ y) (v + w)
covers_add Up r x y v w h g = let e = distributes x y r.d in omega (arith, ints)
covers_add Down r x y v w h g = let e = distributes x y r.d in omega (arith, ints)

pub covers_none : (d : Direction) (r : Exact) (x : ℤ) (v : ℕ) → x ≡ pos 0 → v ≡ 0 → Covers d r x v
covers_none d r x v e f = subst (λ y. Covers d r y v) (sym e) (subst (λ w. Covers d r (pos 0) w) (sym f) (at_zero d))
  where
    at_zero : (d : Direction) → Covers d r (pos 0) 0
    at_zero Up = omega (arith, ints)
    at_zero Down = omega (arith, ints)

quotient_some : (x : ℤ) (v : ℕ) → 1 ≤ v → quotient x v ≡ Some (record { n = x; d = v })
quotient_some x v h = cond-true (nat_lt 0 v) _ _ (lt-ltb 0 v h)

pub covers_quotient : (d : Direction) (r : Exact) (x : ℤ) (v : ℕ) → (v ≡ 0 → x ≡ pos 0) → Tops d (quotient x v) r → Covers d r x v
covers_quotient d r x zero z h = covers_none d r x 0 (z refl) refl
covers_quotient d r x (suc v) z h = subst (λ o. Tops d o r) (quotient_some x (suc v) (omega arith)) h

scaled : (d : Direction) (p n : ℤ) (D v : ℕ) → IsNoMoreExtreme d (p *ℤ pos D) (n *ℤ pos 1) → IsNoMoreExtreme d ((pos v *ℤ p) *ℤ pos D) (n *ℤ pos v)
scaled Up p n D v h =
    let a = product_is (pos v) p in
    omega (arith, ints, ap (λ k. k * D) a.0, ap (λ k. k * D) a.1, mul-le-mul_right {m = up p * D + down n} {n = up n + down p * D} v (omega (arith, ints)))
scaled Down p n D v h =
    let a = product_is (pos v) p in
    omega (arith, ints, ap (λ k. k * D) a.0, ap (λ k. k * D) a.1, mul-le-mul_right {m = up n + down p * D} {n = up p * D + down n} v (omega (arith, ints)))

priced_covers : (d : Direction) (r : Exact) (v : ℕ) (o : Option Price) → is_some o ≡ true → Tops d (option_map exact_of_price o) r → Covers d r (pos v *ℤ cents_of o) v
priced_covers d r v None e h = absurd (let z : ◌≡◌ {A = ℕ} 0 1 = cc in omega arith)
priced_covers d r v (Some p) e h = scaled d p.cents r.n r.d v h

counting_some : (m : Manual) → 1 ≤ m.volume → counting_price m ≡ formed_price m
counting_some m h = cond-true (nat_lt 0 m.volume) _ _ (lt-ltb 0 m.volume h)

manual_covers : (d : Direction) (r : Exact) (v : ℕ) (o : Option Price) → (1 ≤ v → is_some o ≡ true) → (1 ≤ v → Tops d (option_map exact_of_price o) r) → Covers d r (pos v *ℤ cents_of o) v
manual_covers d r zero o e h = covers_none d r (pos 0 *ℤ cents_of o) 0 (omega (arith, ints)) refl
manual_covers d r (suc v) o e h = priced_covers d r (suc v) o (e (omega arith)) (h (omega arith))

pub covers_manual : (d : Direction) (r : Exact) (f : Option Span) (m : Manual) → ManualSound f m → Tops d (counting_price m) r → Covers d r (manual_turnover m) m.volume
covers_manual d r f m s h = manual_covers d r m.volume m.price s.1 (λ k. subst (λ o. Tops d o r) (counting_some m k) h)

-- the cycles at their extreme price
extreme_covers : (d : Direction) (N g x : ℤ) (D v : ℕ) → IsNoMoreExtreme d (g *ℤ pos D) (N *ℤ pos 1) → IsNoMoreExtreme d x (g *ℤ pos v) → IsNoMoreExtreme d (x *ℤ pos D) (N *ℤ pos v)
extreme_covers Up N g x D v h k =
    omega (
      arith,
      ints,
      mul-le-mul_right {m = up g * D + down N} {n = up N + down g * D} v (omega (arith, ints)),
      mul-le-mul_right {m = up x + down g * v} {n = up g * v + down x} D (omega (arith, ints)),
    )
extreme_covers Down N g x D v h k =
    omega (
      arith,
      ints,
      mul-le-mul_right {m = up N + down g * D} {n = up g * D + down N} v (omega (arith, ints)),
      mul-le-mul_right {m = up g * v + down x} {n = up x + down g * v} D (omega (arith, ints)),
    )

span_covers : (d : Direction) (r : Exact) (x : ℤ) (v : ℕ) (o : Option Span) → is_some o ≡ true → ((lowest_cents o *ℤ pos v) ≤ℤ x) → (x ≤ℤ (highest_cents o *ℤ pos v)) → Tops d (option_map (extreme_of_span d) o) r → Covers d r x v
span_covers d r x v None e l h t = absurd (let z : ◌≡◌ {A = ℕ} 0 1 = cc in omega arith)
span_covers Up r x v (Some s) e l h t = extreme_covers Up r.n s.highest.cents x r.d v t h
span_covers Down r x v (Some s) e l h t = extreme_covers Down r.n s.lowest.cents x r.d v t l

zero_turnover : (o : Option Span) (x : ℤ) → ((lowest_cents o *ℤ pos 0) ≤ℤ x) → (x ≤ℤ (highest_cents o *ℤ pos 0)) → x ≡ pos 0
zero_turnover o x l h = omega (arith, ints)

pub no_turnover : (most : ℕ) (f : Option Span) (v : ℕ) (x : ℤ) (o : Option Span) → CyclesAre most f v x o → v ≡ 0 → x ≡ pos 0
no_turnover most f zero x o s e = zero_turnover o x s.3 s.4
no_turnover most f (suc v) x o s e = absurd (omega arith)

pub covers_cycles : (d : Direction) (r : Exact) (most : ℕ) (f : Option Span) (v : ℕ) (x : ℤ) (o : Option Span) → CyclesAre most f v x o → Tops d (option_map (extreme_of_span d) o) r → Covers d r x v
covers_cycles d r most f zero x o s t = covers_none d r x 0 (no_turnover most f 0 x o s refl) refl
covers_cycles d r most f (suc v) x o s t = span_covers d r x (suc v) o (s.1 (omega arith)) s.3 s.4 t
