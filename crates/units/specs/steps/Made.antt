-- A quantity is made of a number together with the fact that the number is in its bounds.
use Rattle.std.specs.Prelude.{ℕ, Bool, true, false, T, ℤ, ◌≤◌, Ok, Err, Result, nat_le, unsigned_abs}
use Rattle.std.proofs.Common.{leb→le}
use Rattle.units.specs.declared.bounds.OutOfBounds.{OutOfBounds}

-- x, which may use that the test holds, or else y
abbrev pub if_t : {X : Type 0} (b : Bool) → (T b → X) → X → X
if_t true x y = x tt
if_t false x y = y

-- what is made of a number that is at most the limit in size, which the making may use; or else the refusal
abbrev pub made_within : {X : Type 0} → (limit : ℕ) → OutOfBounds → (z : ℤ) → (unsigned_abs z ≤ limit → X) → Result X OutOfBounds
made_within limit beyond z make = if_t (nat_le (unsigned_abs z) limit) (λ h. Ok (make (leb→le (unsigned_abs z) limit h))) (Err beyond)
