-- The extreme of two components is one of them, and is as extreme as both.
use Rattle.std.specs.Prelude.{◌≡◌, ℕ, ◌+◌, ◌*◌, ◌≤◌, Bool, true, false, if◌then◌else◌, ℤ, pos, ◌*ℤ◌, ◌≤ℤ◌, is_some, IfSome, Some, None, int_le, refl}
use Rattle.std.proofs.Common.{ap, subst, mul-le-mul_right, arith}
use borrow.Author.Differences.{ints, up, down}
use Rattle.std.proofs.lemmas.Int.{by_lt_z}
use Rattle.std.specs.Option.{unwrap_or}
use Rattle.figures.specs.Components.{Component, extreme, no_more_extreme}
use Rattle.source.specs.declared.direction.Direction.{Direction}
use Rattle.source.specs.declared.direction.Direction.TheVariants.{Up, Down}
use Rattle.units.specs.Exact.{Exact}
use Rattle.pricing.specs.FourLaws.{IsNoMoreExtreme}

-- P of a component, where it exists
abbrev pub WhereExists : (Exact → Type 0) → Component → Type 0
WhereExists P o = IfSome o P

-- r is as extreme as a
abbrev pub Reach : Direction → Exact → Exact → Type 0
Reach d a r = IsNoMoreExtreme d (a.n *ℤ pos r.d) (r.n *ℤ pos a.d)

-- r is as extreme as a component, where that exists
abbrev pub Tops : Direction → Component → Exact → Type 0
Tops d o r = WhereExists (λ q. Reach d q r) o

-- the denominator of a component is above 0, where that exists
abbrev pub Positive : Component → Type 0
Positive o = WhereExists (λ q. 1 ≤ q.d) o

pub beyond_same : (d : Direction) (x : ℤ) → IsNoMoreExtreme d x x
beyond_same Up x = omega (arith, ints)
beyond_same Down x = omega (arith, ints)

le_true : (x y : ℤ) → int_le x y ≡ true → x ≤ℤ y
le_true x y e = grind (arith, ints)

le_false : (x y : ℤ) → int_le x y ≡ false → y ≤ℤ x
le_false x y e = grind (arith, ints)

pub reach_true : (d : Direction) (a b : Exact) → no_more_extreme d a b ≡ true → Reach d a b
reach_true Up a b e = le_true _ _ e
reach_true Down a b e = le_true _ _ e

pub reach_false : (d : Direction) (a b : Exact) → no_more_extreme d a b ≡ false → Reach d b a
reach_false Up a b e = le_false _ _ e
reach_false Down a b e = le_false _ _ e

-- the order of fractions is one where no denominator is zero
pub cross : (n m k : ℤ) (d e f : ℕ) → 1 ≤ e → (n *ℤ pos e) ≤ℤ (m *ℤ pos d) → (m *ℤ pos f) ≤ℤ (k *ℤ pos e) → (n *ℤ pos f) ≤ℤ (k *ℤ pos d)
cross n m k d e f some h g =
    by_lt_z (k *ℤ pos d) (n *ℤ pos f)
    (λ l. absurd (omega (
      arith,
      mul-le-mul_right {m = up n * e + down m * d} {n = up m * d + down n * e} f (omega (arith, ints)),
      mul-le-mul_right {m = up m * f + down k * e} {n = up k * e + down m * f} d (omega (arith, ints)),
      mul-le-mul_right {m = up k * d + down n * f + 1} {n = up n * f + down k * d} e (omega (arith, ints)),
    )))
    (λ l. l)

pub reach_trans : (d : Direction) (a b c : Exact) → 1 ≤ b.d → Reach d a b → Reach d b c → Reach d a c
reach_trans Up a b c some h g = cross a.n b.n c.n a.d b.d c.d some h g
reach_trans Down a b c some h g = cross c.n b.n a.n c.d b.d a.d some g h

pick : (t : Bool) (P : Component → Type 0) (x y : Component) → P x → P y → P (if t then x else y)
pick true P x y p q = p
pick false P x y p q = q

pub extreme_keeps : (P : Exact → Type 0) (d : Direction) (a b : Component) → WhereExists P a → WhereExists P b → WhereExists P (extreme d a b)
extreme_keeps P d None b x y = y
extreme_keeps P d (Some a) None x y = x
extreme_keeps P d (Some a) (Some b) x y = pick (no_more_extreme d a b) (WhereExists P) (Some b) (Some a) y x

some_same : (q r : Exact) → Some q ≡ Some r → q ≡ r
some_same q r e = ap (λ o. unwrap_or o q) e

pub tops_self : (d : Direction) (o : Component) (r : Exact) → o ≡ Some r → Tops d o r
tops_self d None r e = tt
tops_self d (Some q) r e = subst (λ x. Reach d q x) (some_same q r e) (beyond_same d _)

two_top : (d : Direction) (a b r : Exact) (t : Bool) → (t ≡ true → Reach d a b) → (t ≡ false → Reach d b a) → (if t then Some b else Some a) ≡ Some r → Reach d a r × Reach d b r
two_top d a b r true h g e = (subst (λ x. Reach d a x) (some_same b r e) (h refl), tops_self d (Some b) r e)
two_top d a b r false h g e = (tops_self d (Some a) r e, subst (λ x. Reach d b x) (some_same a r e) (g refl))

pub extreme_tops : (d : Direction) (a b : Component) (r : Exact) → extreme d a b ≡ Some r → Tops d a r × Tops d b r
extreme_tops d None b r e = (tt, tops_self d b r e)
extreme_tops d (Some a) None r e = (tops_self d (Some a) r e, tt)
extreme_tops d (Some a) (Some b) r e = two_top d a b r (no_more_extreme d a b) (reach_true d a b) (reach_false d a b) e

two_parts : (d : Direction) (a b r : Exact) (t : Bool) → 1 ≤ a.d → 1 ≤ b.d → (t ≡ true → Reach d a b) → (t ≡ false → Reach d b a) → Tops d (if t then Some b else Some a) r → Reach d a r × Reach d b r
two_parts d a b r true p q h g x = (reach_trans d a b r q (h refl) x, x)
two_parts d a b r false p q h g x = (x, reach_trans d b a r p (g refl) x)

pub tops_parts : (d : Direction) (a b : Component) (r : Exact) → Positive a → Positive b → Tops d (extreme d a b) r → Tops d a r × Tops d b r
tops_parts d None b r p q x = (tt, x)
tops_parts d (Some a) None r p q x = (x, tt)
tops_parts d (Some a) (Some b) r p q x = two_parts d a b r (no_more_extreme d a b) p q (reach_true d a b) (reach_false d a b) x

both_some : (t : Bool) (a b : Exact) → is_some (if t then Some b else Some a) ≡ true
both_some true a b = refl
both_some false a b = refl

pub extreme_first : (d : Direction) (a b : Component) → is_some a ≡ true → is_some (extreme d a b) ≡ true
extreme_first d None b e = absurd (let z : ◌≡◌ {A = ℕ} 0 1 = cc in omega arith)
extreme_first d (Some a) None e = refl
extreme_first d (Some a) (Some b) e = both_some (no_more_extreme d a b) a b

pub extreme_second : (d : Direction) (a b : Component) → is_some b ≡ true → is_some (extreme d a b) ≡ true
extreme_second d None b e = e
extreme_second d (Some a) None e = refl
extreme_second d (Some a) (Some b) e = both_some (no_more_extreme d a b) a b
