-- The nearest energies, and energy that is read with a cap.
use Rattle.std.proofs.Common.{◌≡◌, ℕ, zero, suc, ◌+◌, ◌-◌, ◌*◌, ◌<◌, ◌≤◌, min, true, false, nat_lt, Ok, Err, refl, ap, ◌∙◌, ⊎_elim, arith}
use Rattle.std.proofs.lemmas.Bool.{cases_Bool, cases_lt, lt-ltb}
use Rattle.source.specs.Products.{weight}
use Rattle.source.specs.declared.product.TheConstants.{CYCLES}
use Rattle.source.specs.declared.slot.TheConstants.{SLOTS}
use Rattle.units.specs.Chains.{result_and_then}
use Rattle.units.specs.declared.bounds.TheConstants.{MOST_KW}
use Rattle.words.specs.Numerals.{Number, capped}
use Rattle.words.specs.declared.decimal.TheConstants.{READ_AT_MOST}
use Rattle.quarter_text.specs.Faults.{ReadOrFault}
use Rattle.quarter_text.specs.Lines.{is_whole, power, whole_after}
use Rattle.quarter_text.specs.Ranges.{weight_of_range, weights}
use Rattle.quarter_text.specs.declared.range.Range.{Range}

-- a number that is not whole is passed over
pub passed_over : (w p m : ℕ) → p < m → is_whole w (p + 1) ≡ false → whole_after w p (m - p) ≡ whole_after w (p + 1) (m - (p + 1))
passed_over w p m l e = let z : m - p ≡ suc (m - (p + 1)) = omega (arith, l) in rw (z, e) refl

-- no slot weighs more than all cycles
weight_most : (k : ℕ) → weight k ≤ CYCLES
weight_most k = ⊎_elim
    (λ (e : nat_lt k CYCLES ≡ true). rw e (omega arith))
    (λ (e : nat_lt k CYCLES ≡ false). ⊎_elim
    (λ (f : nat_lt k SLOTS ≡ true). rw (e, f) (omega arith))
    (λ (f : nat_lt k SLOTS ≡ false). rw (e, f) (omega arith))
    (cases_Bool (nat_lt k SLOTS)))
    (cases_Bool (nat_lt k CYCLES))

weights_most : (first n : ℕ) → weights first n ≤ n * CYCLES
weights_most first zero = omega arith
weights_most first (suc n) = omega (arith, weights_most first n, weight_most (first + n))

range_most : (r : Range) → r.first ≤ r.last → r.last < SLOTS → weight_of_range r ≤ SLOTS * CYCLES
range_most r o l = omega (arith, weights_most r.first (r.last + 1 - r.first), o, l)

-- a number that is too large for every bound, and the same read with a cap
power_of_capped : (k : ℕ) (r : Range) (n : Number) → weight_of_range r ≤ SLOTS * CYCLES → power k r (capped n) ≡ power k r n
power_of_capped k r n l =
    let w : ℕ = weight_of_range r in
    ⊎_elim
    (λ (s : READ_AT_MOST < n.size).
    let e : min n.size READ_AT_MOST ≡ READ_AT_MOST = omega (arith, s) in
    let whole : nat_lt (MOST_KW * w) (n.size * 900) ≡ true = lt-ltb _ _ (omega (arith, s, l)) in
    let cut : nat_lt (MOST_KW * w) (READ_AT_MOST * 900) ≡ true = lt-ltb _ _ (omega (arith, l)) in
    rw (e, whole, cut) refl)
    (λ (s : n.size ≤ READ_AT_MOST).
    let e : min n.size READ_AT_MOST ≡ n.size = omega (arith, s) in
    ap (λ m. power k r (record { negative = n.negative; size = m })) e)
    (cases_lt READ_AT_MOST n.size)

pub power_read : (k : ℕ) (r : Range) (e : Number) (x : ReadOrFault Number) → (r.first ≤ r.last) × (r.last < SLOTS) → Ok e ≡ result_and_then x (λ n. Ok (capped n)) → power k r e ≡ result_and_then x (power k r)
power_read k r e (Err f) l h = cc
power_read k r e (Ok n) l h = let z : e ≡ capped n = cc in ap (power k r) z ∙ power_of_capped k r n (range_most r l.0 l.1)
