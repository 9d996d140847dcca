-- Cents as euros: a minus sign below zero, the whole euros, a point and two digits.
use Rattle.std.specs.Prelude.{ℕ, suc, ◌+◌, ◌/◌, ◌%◌, List, [], ◌∷◌, ◌++◌, ℤ, pos, negsuc, decimal}

-- whole euros, a point, and two digits of cents
unfoldable pub magnitude : ℕ → List ℕ
magnitude n = decimal (n / 100) ++ (46 ∷ (48 + n / 10 % 10) ∷ (48 + n % 10) ∷ [])

-- with a minus sign where the amount is below zero
unfoldable pub euros : ℤ → List ℕ
euros (pos n) = magnitude n
euros (negsuc n) = 45 ∷ magnitude (suc n)
