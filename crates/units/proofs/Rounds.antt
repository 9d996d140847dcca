-- What rounding to the nearest gives, over the naturals and then with a sign.
use Rattle.std.proofs.Common.{◌≡◌, ℕ, zero, suc, ◌+◌, ◌*◌, ◌/◌, ◌%◌, ◌<◌, ◌≤◌, ℤ, pos, negsuc, ◌+ℤ◌, ◌-ℤ◌, ◌*ℤ◌, neg_ℤ, nat_abs, ◌≤ℤ◌, ◌<ℤ◌, mul-le-mul_right, mod-lt, arith}
use Rattle.units.specs.Rounding.{half_up, rounded, Nearest}
use borrow.Author.Differences.{ints, up, down}
use Rattle.std.proofs.lemmas.Int.{by_lt_z}
use lib.Signed.{quot_z, rem_z}
use native.Mathlib.Nat.{div-add-mod, div-eq_of_lt-le, div-eq_of_lt}

-- the remainder says which way
pub up_past_half : (n d : ℕ) → 1 ≤ d → d ≤ 2 * (n % d) → half_up n d ≡ n / d + 1
unfolding half_up
up_past_half n d some h = grind (arith, div-add-mod n d, mod-lt n some)

pub up_under_half : (n d : ℕ) → 1 ≤ d → 2 * (n % d) < d → half_up n d ≡ n / d
unfolding half_up
up_under_half n d some h =
    let e : d * (n / d) + n % d ≡ n = div-add-mod n d in
    div-eq_of_lt-le (2 * d) (omega arith) (omega arith)

-- the quotient stands between two multiples
pub up_between : (n d : ℕ) → 1 ≤ d → (2 * (half_up n d * d) ≤ 2 * n + d) × (2 * n < 2 * (half_up n d * d) + d)
unfolding half_up
up_between n d some = grind (arith, div-add-mod (2 * n + d) (2 * d), mod-lt (2 * n + d))

near_pos : (n D R : ℕ) → (2 * (R * D) ≤ 2 * n + D) × (2 * n < 2 * (R * D) + D) → Nearest (pos n) D (pos R)
near_pos n D R b = grind (arith, ints)

near_neg : (n D R : ℕ) → (2 * (R * D) ≤ 2 * suc n + D) × (2 * suc n < 2 * (R * D) + D) → Nearest (negsuc n) D (neg_ℤ (pos R))
near_neg n D zero b = grind (arith, ints)
near_neg n D (suc R) b = grind (arith, ints)

pub nearest_rounded : (N : ℤ) (D : ℕ) → 1 ≤ D → Nearest N D (rounded N D)
unfolding rounded
nearest_rounded (pos n) D some = near_pos n D (half_up n D) (up_between n D some)
nearest_rounded (negsuc n) D some = near_neg n D (half_up (suc n) D) (up_between (suc n) D some)

up_zero : (D : ℕ) → half_up 0 D ≡ 0
unfolding half_up
up_zero D = grind (arith, div-eq_of_lt)

pub rounded_neg : (N : ℤ) (D : ℕ) → rounded (neg_ℤ N) D ≡ neg_ℤ (rounded N D)
unfolding rounded
rounded_neg (pos n) D = grind (arith, up_zero)
rounded_neg (negsuc n) D = grind (arith, ints)

-- whole bounds are kept, by any nearest number
pub nearest_at_least : (N : ℤ) (D : ℕ) (r lo : ℤ) → 1 ≤ D → Nearest N D r → (lo *ℤ pos D) ≤ℤ N → lo ≤ℤ r
nearest_at_least N D r lo some near h = grind (arith, ints, mul-le-mul_right {m = up r + down lo + 1} {n = up lo + down r} D)

pub nearest_at_most : (N : ℤ) (D : ℕ) (r hi : ℤ) → 1 ≤ D → Nearest N D r → N ≤ℤ (hi *ℤ pos D) → r ≤ℤ hi
nearest_at_most N D r hi some near h = grind (arith, ints, mul-le-mul_right {m = up hi + down r + 1} {n = up r + down hi} D)

-- the quotient, its remainder and a test, as the code has them
pub past_half : (N : ℤ) (D : ℕ) → 1 ≤ D → pos D ≤ℤ (pos 2 *ℤ rem_z N (pos D)) → quot_z N (pos D) +ℤ pos 1 ≡ rounded N D
unfolding rounded
past_half (pos n) D some h = grind (arith, ints, up_past_half)
past_half (negsuc n) D some h = absurd (omega (arith, ints))

pub under_minus_half : (N : ℤ) (D : ℕ) → 1 ≤ D → (pos 2 *ℤ rem_z N (pos D)) ≤ℤ neg_ℤ (pos D) → quot_z N (pos D) -ℤ pos 1 ≡ rounded N D
unfolding rounded
under_minus_half (pos n) D some h = absurd (omega (arith, ints))
under_minus_half (negsuc n) D some h = grind (arith, ints, up_past_half)

pub under_half : (N : ℤ) (D : ℕ) → 1 ≤ D → (pos 2 *ℤ rem_z N (pos D)) <ℤ pos D → neg_ℤ (pos D) <ℤ (pos 2 *ℤ rem_z N (pos D)) → quot_z N (pos D) ≡ rounded N D
unfolding rounded
under_half (pos n) D some h g = grind (arith, ints, up_under_half)
under_half (negsuc n) D some h g = grind (arith, ints, up_under_half)

pub nearest_is : (N : ℤ) (D : ℕ) {r : ℤ} → 1 ≤ D → r ≡ rounded N D → Nearest N D r
nearest_is N D some e = grind (arith, nearest_rounded)

pub keeps_bounds : (N : ℤ) (D : ℕ) (lo hi : ℤ) → 1 ≤ D → (lo *ℤ pos D) ≤ℤ N → N ≤ℤ (hi *ℤ pos D) → (lo ≤ℤ rounded N D) × (rounded N D ≤ℤ hi)
keeps_bounds N D lo hi some h k = grind (arith, ints, nearest_rounded N D, nearest_at_least, nearest_at_most)

-- two nearest numbers, one below the other, would both be ties, and on one side of zero the nearer loses
apart : (N : ℤ) (D : ℕ) (r s : ℤ) → 1 ≤ D → Nearest N D r → Nearest N D s → r <ℤ s → ⊥
apart N D r s some a b l =
    let m : (up r + down s + 1) * D ≤ (up s + down r) * D = mul-le-mul_right D (omega (arith, ints)) in
    let e : 2 * nat_abs (r *ℤ pos D -ℤ N) ≡ D = omega (arith, ints, a.close, b.close) in
    let f : 2 * nat_abs (s *ℤ pos D -ℤ N) ≡ D = omega (arith, ints, a.close, b.close) in
    let t = a.tie e in
    let u = b.tie f in
    by_lt_z r (pos 0)
    (λ neg. let k : (up r + 1) * D ≤ down r * D = mul-le-mul_right D (omega (arith, ints)) in omega (arith, ints))
    (λ non. let k : down r * D ≤ up r * D = mul-le-mul_right D (omega (arith, ints)) in omega (arith, ints))

pub only_nearest : (N : ℤ) (D : ℕ) (r : ℤ) → 1 ≤ D → Nearest N D r → r ≡ rounded N D
only_nearest N D r some a = grind (arith, ints, nearest_rounded N D, apart)

-- what is at most a price in size is rounded to a price
pub price_kept : (N : ℤ) (D : ℕ) → 1 ≤ D → nat_abs N ≤ 9_999_900 * D → nat_abs (rounded N D) ≤ 9_999_900
price_kept N D some h = grind (arith, ints, keeps_bounds N D (negsuc 9_999_899) (pos 9_999_900))
