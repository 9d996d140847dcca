-- What the parts of a format give is the amount's text.
use Rattle.std.proofs.Common.{◌≡◌, ℕ, ◌/◌, ◌%◌, true, false, List, ◌∷◌, ◌++◌, ℤ, pos, nat_abs, decimal, arith}
use Rattle.units.specs.Text.{magnitude, euros}
use Rattle.std.proofs.lemmas.Fmt.{decimal_digit}
use borrow.Author.Differences.{ints}
use lib.Signed.{lt_z}

abbrev pub parts : ℕ → List ℕ
parts n = decimal (n / 100) ++ (46 ∷ (decimal (n / 10 % 10) ++ decimal (n % 10)))

spelled : (n : ℕ) → parts n ≡ magnitude n
unfolding magnitude
spelled n = grind (arith, decimal_digit)

pub below_zero : (z : ℤ) (n : ℕ) → lt_z z (pos 0) ≡ true → n ≡ nat_abs z → 45 ∷ parts n ≡ euros z
unfolding euros
below_zero z n h e = grind (arith, ints, spelled)

pub from_zero : (z : ℤ) (n : ℕ) → lt_z z (pos 0) ≡ false → n ≡ nat_abs z → parts n ≡ euros z
unfolding euros
from_zero z n h e = grind (arith, ints, spelled)
