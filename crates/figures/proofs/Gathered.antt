-- What the slots of a quarter give is sound.
use Rattle.std.proofs.Common.{◌≡◌, ℕ, zero, suc, ◌+◌, ◌-◌, ◌*◌, ◌<◌, ◌≤◌, true, ltb, ℤ, pos, ◌+ℤ◌, ◌*ℤ◌, ◌≤ℤ◌, is_some, Some, None, Option, refl, subst, mul-le-mul_right, mul-le-mul_left, mul-pos, arith}
use borrow.Author.Differences.{ints, up, down}
use Rattle.std.proofs.Math.Nat.{suc-add}
use Rattle.std.proofs.lemmas.Bool.{cond-true, lt-ltb}
use Rattle.std.proofs.lemmas.Bool.Decides.{nat_tests}
use Rattle.source.specs.Products.{weight}
use Rattle.source.specs.Slots.{Slot}
use Rattle.source.specs.declared.direction.Direction.{Direction}
use Rattle.source.specs.declared.slot.Reading.{Reading}
use Rattle.units.specs.declared.price.Price.{Price}
use Rattle.units.specs.declared.bounds.TheConstants.{MOST_KW}
use Rattle.figures.specs.Components.{cents_of}
use Rattle.figures.specs.Counting.{activation, counted_of, demand_in, formed_of}
use Rattle.figures.specs.Sides.{Slots, formed_to, totals_to, totals_with, manual_at, side_of}
use Rattle.figures.specs.Spans.{lesser, greater, widened, span_with}
use Rattle.figures.specs.declared.side.Activation.{Activation}
use Rattle.figures.specs.declared.side.Totals.{Totals}
use Rattle.figures.specs.declared.span.Span.{Span}
use Rattle.figures.proofs.Sound.{Between, CyclesAre, CyclesSound, ManualSound, Sound}

-- ---- one slot
-- an activation at the weight w has a volume and is at the price formed
abbrev pub Proper : ℕ → Option Price → Option Activation → Type 0
Proper w p None = Unit {0}
Proper w p (Some a) = (1 ≤ a.volume) × (a.volume ≤ MOST_KW * w) × (p ≡ Some a.price)

activation_proper : (w n : ℕ) (p : Option Price) → 1 ≤ w → n ≤ MOST_KW → Proper w p (activation w n p)
activation_proper w n p some h = grind (arith, mul-pos, mul-le-mul_left {m = n} {n = MOST_KW} w)

pub demand_within : (d : Direction) (r : Reading) → demand_in d r ≤ MOST_KW
demand_within d r = grind (arith, ints, r.demand.bounded)

pub counted_proper : (d : Direction) (w : ℕ) (s : Slot) → 1 ≤ w → Proper w (formed_of d s) (counted_of d w s)
counted_proper d w s some = grind (arith, activation_proper, demand_within)

pub weight_bounds : (k : ℕ) → k < 228 → (1 ≤ weight k) × (weight k ≤ 225)
weight_bounds k h = grind (arith, nat_tests)

pub weight_cycle : (k : ℕ) → k < 225 → weight k ≡ 1
weight_cycle k h = cond-true (ltb k 225) 1 _ (lt-ltb k 225 h)

-- ---- spans
between_new : (p : Price) (s : Option Span) → Between (Some (widened p s)) p.cents
between_new p s = grind (arith, ints)

between_noted : (o : Option Price) (s : Option Span) (z : ℤ) → Between s z → Between (span_with o s) z
between_noted o s z b = grind (arith, ints)

pub formed_grows : (d : Direction) (m : Slots) (n j : ℕ) (z : ℤ) → Between (formed_to d m n) z → Between (formed_to d m (j + n)) z
unfolding formed_to
formed_grows d m n zero z b = grind arith
formed_grows d m n (suc j) z b = rw suc-add (between_noted (formed_of d (m (j + n))) (formed_to d m (j + n)) z (formed_grows d m n j z b))

pub formed_here : (d : Direction) (m : Slots) (k : ℕ) (p : Price) → formed_of d (m k) ≡ Some p → Between (formed_to d m (suc k)) p.cents
unfolding formed_to
formed_here d m k p e = grind (arith, between_new)

-- ---- the counting cycles
pub scaled : (m l : ℤ) (v : ℕ) → m ≤ℤ l → (m *ℤ pos v) ≤ℤ (l *ℤ pos v)
scaled m l v h = omega (arith, ints, mul-le-mul_right {m = up m + down l} {n = up l + down m} v (omega (arith, ints)))

above : (v a : ℕ) (x p l m : ℤ) → m ≤ℤ l → m ≤ℤ p → (l *ℤ pos v) ≤ℤ x → (m *ℤ pos (v + a)) ≤ℤ (x +ℤ (pos a *ℤ p))
above v a x p l m ml mp h = omega (arith, ints, scaled m l v ml, scaled m p a mp)

under : (v a : ℕ) (x p g m : ℤ) → g ≤ℤ m → p ≤ℤ m → x ≤ℤ (g *ℤ pos v) → (x +ℤ (pos a *ℤ p)) ≤ℤ (m *ℤ pos (v + a))
under v a x p g m gm pm h = omega (arith, ints, scaled g m v gm, scaled p m a pm)

-- one more activation, at a price that is formed with it
more_sound : (most w v b : ℕ) (x : ℤ) (o f : Option Span) (p : Price) → b ≤ MOST_KW * w → 1 ≤ b → CyclesAre most f v x o
    → CyclesAre (most + MOST_KW * w) (Some (widened p f)) (v + b) (x +ℤ (pos b *ℤ p.cents)) (Some (widened p o))
more_sound most w zero b x None f p h some s = grind (arith, ints)
more_sound most w (suc v) b x None f p h some s = grind arith
more_sound most w v b x (Some o) f p h some s = grind (arith, ints, above v b x p.cents o.lowest.cents (lesser p o.lowest).cents, under v b x p.cents o.highest.cents (greater p o.highest).cents)

-- one more slot, of the weight w
slot_sound : (most w : ℕ) (f : Option Span) (t : Totals) (o : Option Price) (a : Option Activation) → Proper w o a
    → CyclesSound most f t → CyclesSound (most + MOST_KW * w) (span_with o f) (totals_with a t)
slot_sound most w f t o None proper s =
    (omega (arith, s.0), s.1, λ e. let k = s.2 e in (between_noted o f _ k.0, between_noted o f _ k.1), s.3, s.4)
slot_sound most w f t o (Some a) proper s = grind (arith, more_sound most w t.volume a.volume t.turnover t.span f a.price)

pub cycles_sound : (d : Direction) (m : Slots) (n : ℕ) → n ≤ 225 → CyclesSound (MOST_KW * n) (formed_to d m n) (totals_to d m n)
unfolding totals_to formed_to
cycles_sound d m zero h = grind (arith, ints)
cycles_sound d m (suc k) h = grind (arith, weight_cycle k, cycles_sound d m k, counted_proper d (weight k) (m k), slot_sound (MOST_KW * k) (weight k) (formed_to d m k) (totals_to d m k))

-- ---- a manual slot
between_formed : (d : Direction) (m : Slots) (k : ℕ) → k < 228 → (p : Price) → formed_of d (m k) ≡ Some p → Between (formed_to d m 228) p.cents
between_formed d m k h p e =
    let l : (227 - k) + suc k ≡ 228 = omega arith in
    subst (λ n. Between (formed_to d m n) p.cents) l (formed_grows d m (suc k) (227 - k) p.cents (formed_here d m k p e))

priced_manual : (o : Option Price) (f : Option Span) → ((p : Price) → o ≡ Some p → Between f p.cents) → is_some o ≡ true → Between f (cents_of o)
priced_manual None f h e = cc
priced_manual (Some p) f h e = h p refl

manual_sound : (d : Direction) (m : Slots) (k : ℕ) → k < 228 → ManualSound (formed_to d m 228) (manual_at d m k)
manual_sound d m k h = grind (arith, weight_bounds k, counted_proper d (weight k) (m k), priced_manual (formed_of d (m k)) (formed_to d m 228) (between_formed d m k h))

pub side_sound : (d : Direction) (m : Slots) → Sound (side_of d m)
side_sound d m = grind (arith, cycles_sound d m 225, formed_grows d m 225 3, manual_sound d m)
