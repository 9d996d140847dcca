-- Sums of imbalance times price: how large they are, and one period more.
use Rattle.std.proofs.Common.{◌≡◌, ℕ, zero, suc, ◌+◌, ◌*◌, ◌<◌, ◌≤◌, ℤ, ◌+ℤ◌, ◌*ℤ◌, nat_abs, refl, ap, ◌∙◌, add-one, arith, w64, SFits, to_z, of_z}
use borrow.Author.Differences.{ints}
use Rattle.std.proofs.lemmas.Int.{to_z-of_z, unsigned_abs-mul}
use Rattle.std.proofs.lemmas.Nat.{mul-le}
use Rattle.metering.specs.declared.imbalance.TheConstants.{MOST_IMBALANCE}
use Rattle.units.proofs.Rounds.{nearest_rounded}
use Rattle.units.specs.Rounding.{rounded}
use Rattle.settlement.specs.Known.{Known, imbalance_amount, payable, sum_to}
use Rattle.settlement.specs.Standings.{standing_cents}
use Rattle.settlement.specs.declared.book.TheConstants.{MOST_PERIODS}
use Rattle.settlement.specs.declared.party.TheConstants.{MOST_PAID}
use Rattle.settlement.specs.declared.quarter.TheConstants.{MOST_AMOUNT}
use Rattle.settlement.specs.declared.quarter.Quarter.{Quarter}
use Rattle.settlement.specs.declared.quarter.Quarter.TheVariants.{Blank, Priced, Closed}

pub cents_small : (x : Quarter) → nat_abs (standing_cents x) ≤ 9_999_900
cents_small Blank = omega arith
cents_small (Priced q) = q.price.bounded
cents_small (Closed q) = q.price.bounded

pub term_small : (v x : ℤ) → nat_abs v ≤ MOST_IMBALANCE → nat_abs x ≤ 9_999_900 → nat_abs (v *ℤ x) ≤ MOST_AMOUNT
term_small v x a b = rw unsigned_abs-mul (mul-le (nat_abs v) (nat_abs x) MOST_IMBALANCE 9_999_900 a b)

pub sum_fits : (s t : ℤ) (i : ℕ) → nat_abs s ≤ i * MOST_AMOUNT → i < MOST_PERIODS → nat_abs t ≤ MOST_AMOUNT → SFits w64 (s +ℤ t)
sum_fits s t i a l b = omega (arith, ints)

pub sum_small : (s t : ℤ) (i : ℕ) → nat_abs s ≤ i * MOST_AMOUNT → nat_abs t ≤ MOST_AMOUNT → nat_abs (s +ℤ t) ≤ (i + 1) * MOST_AMOUNT
sum_small s t i a b = omega (arith, ints)

sum_to_more : (i : ℕ) (f : ℕ → ℤ) → sum_to (i + 1) f ≡ sum_to i f +ℤ f i
sum_to_more i f = rw add-one refl

pub sum_more : (s t : ℤ) (i : ℕ) (f : ℕ → ℤ) → s ≡ sum_to i f → t ≡ f i → s +ℤ t ≡ sum_to (i + 1) f
sum_more s t i f a b = let e = sum_to_more i f in cc

pub sum_same : (n : ℕ) (f g : ℕ → ℤ) → ((p : ℕ) → p < n → f p ≡ g p) → sum_to n f ≡ sum_to n g
sum_same zero f g h = refl
sum_same (suc n) f g h =
    let e = sum_same n f g (λ p l. h p (omega arith)) in
    let k = h n (omega arith) in
    cc

-- T hangs on the periods, and on the imbalances and quarters of these
pub same_amount : (k l : Known) (q : ℕ) → k.periods ≡ l.periods → ((p : ℕ) → p < l.periods → k.imbalance p q ≡ l.imbalance p q) → ((p : ℕ) → p < l.periods → k.quarter p ≡ l.quarter p) → imbalance_amount k q ≡ imbalance_amount l q
same_amount k l q n v s =
    ap (λ m. sum_to m (λ p. k.imbalance p q *ℤ standing_cents (k.quarter p))) n
    ∙ sum_same l.periods _ _ (λ p h. let i = v p h in let x = s p h in cc)

-- what is due hangs on what was paid besides
pub same_payable : (k l : Known) (q : ℕ) → imbalance_amount k q ≡ imbalance_amount l q → k.paid q ≡ l.paid q → payable k q ≡ payable l q
same_payable k l q t p = cc

-- the cents that T comes to, and their size, where T is handed over as the machine's number
pub due_small : (t r : ℤ) → nat_abs t ≤ MOST_PERIODS * MOST_AMOUNT → r ≡ rounded (to_z w64 (of_z w64 t)) 1000 → (r ≡ rounded t 1000) × (nat_abs r ≤ MOST_PAID)
due_small t r h e =
    let f : SFits w64 t = omega (arith, ints) in
    let s : r ≡ rounded t 1000 = e ∙ ap (λ (z : ℤ). rounded z 1000) (to_z-of_z w64 t f) in
    (s, omega (arith, ints, s, (nearest_rounded t 1000 (omega arith)).close))
