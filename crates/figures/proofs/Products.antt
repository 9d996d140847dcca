-- Products of a natural and a signed number.
use Rattle.std.proofs.Common.{◌≡◌, ℕ, ◌*◌, ◌≤◌, ℤ, pos, negsuc, ◌+ℤ◌, ◌*ℤ◌, nat_abs, ap, ◌∙◌, mul-le-mul_left, arith, w64, to_z, of_z}
use Rattle.units.specs.declared.bounds.TheConstants.{MOST_CENTS}
use Rattle.figures.specs.Components.{manual_turnover}
use Rattle.figures.specs.declared.side.Manual.{Manual}
use Rattle.figures.specs.declared.tally.DirectionTally.{DirectionTally}
use Rattle.units.specs.declared.price.Price.{Price}
use borrow.Author.Differences.{ints}

pub product_within : (a k : ℕ) (p : ℤ) → nat_abs p ≤ k → nat_abs (pos a *ℤ p) ≤ k * a
product_within a k (pos p) h = omega (arith, ints, mul-le-mul_left a h)
product_within a k (negsuc p) h = omega (arith, ints, mul-le-mul_left a h)

-- a sum of two signed numbers of 64 bits that fits them
pub sum_kept : (x m n : ℤ) → m ≡ n → nat_abs x ≤ 22_499_775_000_000_000 → nat_abs n ≤ 22_499_775_000_000_000 → to_z w64 (of_z w64 (to_z w64 (of_z w64 x) +ℤ to_z w64 (of_z w64 m))) ≡ x +ℤ n
sum_kept x m n e b d = omega (arith, ints)

abbrev tally : ℕ → ℤ → Price → Price → Price → Price → DirectionTally
tally v x a b c d = record { volume = v; turnover = x; lowest_counting = a; highest_counting = b; lowest_formed = c; highest_formed = d }

-- tallies of the same formed prices
pub tally_same : (v w : ℕ) (x y : ℤ) (a b c d l h : Price) → v ≡ w → x ≡ y → a ≡ c → b ≡ d → tally v x a b l h ≡ tally w y c d l h
tally_same v w x y a b c d l h e f g k =
    ap (λ z. tally z x a b l h) e ∙ ap (λ z. tally w z a b l h) f ∙ ap (λ z. tally w y z b l h) g ∙ ap (λ z. tally w y c z l h) k

pub manual_turnover_within : (m : Manual) → nat_abs (manual_turnover m) ≤ MOST_CENTS * m.volume
manual_turnover_within m = grind (arith, ints, product_within)
