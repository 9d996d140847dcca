-- The rule of price with a reference price keeps the laws, whatever that price is.
use Rattle.std.specs.Prelude.{◌≡◌, ℕ, Bool, true, false, if◌then◌else◌, is_some, Some, None, Option, refl}
use Rattle.std.proofs.Common.{sym, subst, arith}
use Rattle.std.proofs.lemmas.Bool.{cond_both}
use Rattle.figures.specs.Components.{Component, extreme, extreme_of_span, no_more_extreme, turnover, volume, weighted_mean}
use Rattle.figures.specs.declared.span.Span.{Span}
use Rattle.pricing.specs.laws.Fits.{mean_fits, price_within}
use Rattle.pricing.specs.laws.Lawful.{IsLawfulRule, mean_covers, quotient_exists}
use Rattle.pricing.specs.FourLaws.{LiesWithin}
use Rattle.pricing.specs.laws.Reach.{WhereExists, Reach, Tops, beyond_same, extreme_first, extreme_tops, reach_false, reach_true}
use Rattle.quarter_tests.specs.References.{mean_or_reference, opposite, reference_price, reference_within}
use Rattle.source.specs.declared.direction.Direction.{Direction}
use Rattle.source.specs.declared.direction.Direction.TheVariants.{Up, Down}
use Rattle.units.specs.Exact.{Exact, exact_of_price}
use Rattle.units.specs.declared.price.Price.{Price}

turned : (d : Direction) (a b : Exact) → Reach (opposite d) a b → Reach d b a
turned Up a b h = h
turned Down a b h = h

-- the reference is some price, and no more extreme than all formed
chosen : (d : Direction) (s : Span) (p : Price) (t : Bool) → (t ≡ false → Reach d (exact_of_price p) (extreme_of_span d s))
    → (q : Price) × ((if t then Some (extreme_of_span d s) else Some (exact_of_price p)) ≡ Some (exact_of_price q)) × Reach d (exact_of_price q) (extreme_of_span d s)
chosen Up s p true h = (s.highest, refl, beyond_same Up _)
chosen Down s p true h = (s.lowest, refl, beyond_same Down _)
chosen d s p false h = (p, refl, h refl)

reference_fits : (d : Direction) (f : Option Span) (m : Exact) (p : Price) → LiesWithin f m → WhereExists (LiesWithin f) (extreme d (Some m) (reference_within p d f))
reference_fits d None m p w = absurd (let z : ◌≡◌ {A = ℕ} 0 1 = cc in omega arith)
reference_fits d (Some s) m p w =
    let t = no_more_extreme (opposite d) (exact_of_price p) (extreme_of_span d s) in
    let c = chosen d s p t (λ e. turned d (extreme_of_span d s) (exact_of_price p) (reach_false (opposite d) (exact_of_price p) (extreme_of_span d s) e)) in
    subst (λ o. WhereExists (LiesWithin (Some s)) (extreme d (Some m) o)) (sym c.1)
    (cond_both (no_more_extreme d m (exact_of_price c.0)) (Some (exact_of_price c.0)) (Some m) (WhereExists (LiesWithin (Some s))) (λ e. price_within d s m c.0 w (reach_true d m (exact_of_price c.0) e) c.2) (λ e. w))

mean_exists : (d : Direction) (c r : Component) → is_some c ≡ true → is_some (mean_or_reference d c r) ≡ true
mean_exists d None r e = e
mean_exists d (Some m) r e = extreme_first d (Some m) r refl

both_fit : (d : Direction) (f : Option Span) (p : Price) (c : Component) → WhereExists (LiesWithin f) c → WhereExists (LiesWithin f) (mean_or_reference d c (reference_within p d f))
both_fit d f p None w = tt
both_fit d f p (Some m) w = reference_fits d f m p w

tops_mean : (d : Direction) (c r : Component) (q : Exact) → mean_or_reference d c r ≡ Some q → Tops d c q
tops_mean d None r q e = tt
tops_mean d (Some m) r q e = (extreme_tops d (Some m) r q e).0

pub reference_lawful : (p : Price) → IsLawfulRule (reference_price p)
reference_lawful p = record {
  exists = λ d s h k. mean_exists d (weighted_mean s) (reference_within p d s.formed) (quotient_exists (turnover s) (volume s) k);
  fits = λ d s h. both_fit d s.formed p (weighted_mean s) (mean_fits s h);
  covers = λ d s r h e. mean_covers d s r h (tops_mean d (weighted_mean s) (reference_within p d s.formed) r e);
}
