-- A number searched for by halves, where the numbers rise.
use Rattle.std.proofs.Common.{◌≡◌, ◌≢◌, ℕ, ◌<◌, ◌≤◌, ◌==◌, inl, inr, nat_lt, Bool, true, false, List, [], ◌∷◌, length, get_or, Some, None, Option, refl, sym, ap, ◌∙◌, subst, arith, if◌then◌else◌}
use Rattle.std.specs.List.{position, position_or_len}
use Rattle.std.specs.List.Sorted.{IsPartitionPoint, IsPartitionedBy}
use Rattle.std.proofs.lemmas.Bool.{cases_lt, eq-eqb, eqb-true, lt-ltb, ltb-false, ltb-true, ne_eqb}
use Rattle.std.proofs.lemmas.List.Quantifiers.{position-Some}
use Rattle.std.proofs.lemmas.List.Sums.{position_or_len_is}
use Rattle.ladders.specs.Orders.{GoesByNumber, IsInOrder, Order}
use Rattle.ladders.specs.Steps.{IsByNumber}

module _ {T : Type 0} (o : Order T) where
  pub rising : {by : Bool} (l : List T) → by ≡ true → GoesByNumber by o → IsInOrder o l → IsByNumber o l
  rising l said goes order i j d lt short = ltb-true (o.number (get_or l i d)) (o.number (get_or l j d)) (sym (goes said (get_or l i d) (get_or l j d)) ∙ order i j d lt short)

module _ {T : Type 0} (o : Order T) (n : ℕ) where
  pub below_parts : (l : List T) → IsByNumber o l → IsPartitionedBy (λ y. nat_lt (o.number y) n) l
  below_parts l rise i j d le lt less = elim (cases_lt i j) [
    | inl before ↦ lt-ltb (o.number (get_or l i d)) n (omega (arith, rise i j d before lt, ltb-true (o.number (get_or l j d)) n less))
    | inr more ↦ subst (λ k. nat_lt (o.number (get_or l k d)) n ≡ true) (omega arith) less
  ]

  none_by : (y : T) (l : List T) (q : Option ℕ) → position (λ z. o.number z == n) (y ∷ l) ≡ q → ((k : ℕ) (d : T) → k < length (y ∷ l) → o.number (get_or (y ∷ l) k d) ≢ n) → None ≡ q
  none_by y l None e other = refl
  none_by y l (Some i) e other =
      let at = position-Some (λ z. o.number z == n) (y ∷ l) i y e in
      absurd (other i y at.0 (eqb-true (o.number (get_or (y ∷ l) i y)) n at.1))

  no_place : (l : List T) → ((k : ℕ) (d : T) → k < length l → o.number (get_or l k d) ≢ n) → None ≡ position (λ z. o.number z == n) l
  no_place [] other = refl
  no_place (y ∷ l) other = none_by y l (position (λ z. o.number z == n) (y ∷ l)) refl other

  module _ (l : List T) (rise : IsByNumber o l) (at : ℕ) (within : at ≤ length l) (point : IsPartitionPoint (λ y. nat_lt (o.number y) n ≡ true) (λ y. nat_lt (o.number y) n ≡ false) l at) where
    by_room : (k : ℕ) (room : Bool) → nat_lt k (length l) ≡ room → k < length l → Some k ≡ (if room then Some k else None)
    by_room k true e lt = refl
    by_room k false e lt = absurd (omega (arith, ltb-false k (length l) e))

    pub stands_there : (d : T) → at < length l → o.number (get_or l at d) ≡ n → Some at ≡ position (λ y. o.number y == n) l
    stands_there d lt e =
        let place : position_or_len (λ y. o.number y == n) l ≡ at = position_or_len_is (λ y. o.number y == n) l at d within
        (λ k less. ne_eqb (o.number (get_or l k d)) n (λ f. omega (arith, ltb-true (o.number (get_or l k d)) n (point.0 k d (omega arith) less))))
        (λ room. eq-eqb (o.number (get_or l at d)) n e) in
        subst (λ k. Some at ≡ (if nat_lt k (length l) then Some k else None)) (sym place) (by_room at (nat_lt at (length l)) refl lt)

    pub stands_nowhere : ((d : T) → at < length l → o.number (get_or l at d) ≢ n) → None ≡ position (λ y. o.number y == n) l
    stands_nowhere other = no_place l (λ k d lt e. elim (cases_lt k at) [
      | inl less ↦ omega (arith, e, ltb-true (o.number (get_or l k d)) n (point.0 k d (omega arith) less))
      | inr more ↦ elim (cases_lt at k) [
        | inl past ↦ omega (arith, e, rise at k d past lt, ltb-false (o.number (get_or l at d)) n (point.1 at d (omega arith) (omega arith)))
        | inr same ↦ other d (omega arith) (ap (λ j. o.number (get_or l j d)) (omega arith) ∙ e)
      ]
    ])
