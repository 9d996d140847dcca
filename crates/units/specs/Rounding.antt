-- A fraction rounded to the nearest whole number, a half going away from zero.
use Rattle.std.specs.Prelude.{◌≡◌, ℕ, suc, ◌+◌, ◌*◌, ◌/◌, ◌<◌, ◌≤◌, ℤ, pos, negsuc, ◌-ℤ◌, ◌*ℤ◌, neg_ℤ, unsigned_abs}

-- n / d of naturals, a half going up
unfoldable pub half_up : ℕ → ℕ → ℕ
half_up n d = (2 * n + d) / (2 * d)

-- the same with a sign: the size is rounded
unfoldable pub rounded : ℤ → ℕ → ℤ
rounded (pos n) d = pos (half_up n d)
rounded (negsuc n) d = neg_ℤ (pos (half_up (suc n) d))

-- r is within a half of n / d, and at a tie the one farther from zero
pub record Nearest (n : ℤ) (d : ℕ) (r : ℤ) : Type 0 where
  pub close : 2 * unsigned_abs (r *ℤ pos d -ℤ n) ≤ d
  pub tie : 2 * unsigned_abs (r *ℤ pos d -ℤ n) ≡ d → unsigned_abs n < unsigned_abs (r *ℤ pos d)
