-- Where an item stands in an order, and what putting one in and taking one out leaves of the order.
use Rattle.std.proofs.Common.{◌≡◌, ◌≢◌, ℕ, zero, suc, ◌+◌, ◌-◌, ◌<◌, ◌≤◌, ◌==◌, inl, inr, Bool, true, false, not, List, [], ◌∷◌, length, take, get_or, Some, Option, is_some, if◌then◌else◌, refl, sym, ap, ◌∙◌, subst, arith}
use Rattle.std.specs.List.{AllPairs, count_by, find, insert, position, position_or_len, filter, remove}
use Rattle.std.specs.List.Sorted.{IsPartitionPoint, IsPartitionedBy}
use Rattle.std.proofs.lemmas.Bool.{both_ways, cases_Bool, cases_lt, eq-eqb, eqb-true, ne_eqb, not-false, not-true, true≢false}
use Rattle.std.proofs.lemmas.List.{take_all}
use Rattle.std.proofs.lemmas.List.Edits.{get_or-insert_above, get_or-insert_at, get_or-insert_below, length-insert, length-remove}
use Rattle.std.proofs.lemmas.List.Sums.{count_by-le-length, count_by_more_no, count_by_more_yes, fails_before_first, passes_at_first, prefix_len-le-length}
use Rattle.std.proofs.lemmas.List.Folds.{find_at}
use Rattle.std.proofs.lemmas.Option.{slice_get_past}
use Rattle.ladders.proofs.Found.{placed}
use Rattle.ladders.specs.Lists.{rank_of, stands, with_item, without, item_of}
use Rattle.ladders.specs.Orders.{HasNumbersOnce, IsInOrder, IsStrict, Order}

-- as many pass as stand before the place from which on none does
module _ {X : Type 0} (p : X → Bool) (l : List X) (i : ℕ) (within : i ≤ length l) (point : IsPartitionPoint (λ y. p y ≡ true) (λ y. p y ≡ false) l i) where
  succ : (k : ℕ) → suc k ≡ k + 1
  succ k = omega arith

  none : (k : ℕ) → k + 0 ≡ k
  none k = omega arith

  more : (j k : ℕ) → j + suc k ≡ j + k + 1
  more j k = omega arith

  front : (x : X) (k : ℕ) → k ≤ i → count_by p (take k l) ≡ k
  front x zero le = refl
  front x (suc k) le = ap (λ m. count_by p (take m l)) (succ k) ∙ count_by_more_yes p l k x (omega arith) (point.0 k x (omega arith) (omega arith)) ∙ ap (λ m. m + 1) (front x k (omega arith)) ∙ sym (succ k)

  rest : (x : X) (k : ℕ) → i + k ≤ length l → count_by p (take (i + k) l) ≡ i
  rest x zero le = ap (λ m. count_by p (take m l)) (none i) ∙ front x i (omega arith)
  rest x (suc k) le = ap (λ m. count_by p (take m l)) (more i k) ∙ count_by_more_no p l (i + k) x (omega arith) (point.1 (i + k) x (omega arith) (omega arith)) ∙ rest x k (omega arith)

  pub count_at_point : X → count_by p l ≡ i
  count_at_point x = sym (ap (count_by p) (take_all (i + (length l - i)) l (omega arith))) ∙ rest x (length l - i) (omega arith)

module _ {T : Type 0} (o : Order T) (strict : IsStrict o) where
  -- those that stand before an item are in front of the others
  pub partitioned : (x : T) (l : List T) → IsInOrder o l → IsPartitionedBy (λ y. o.is_before y x) l
  partitioned x l order i j d le lt before = elim (cases_lt i j) [
    | inl less ↦ strict.transitive (get_or l i d) (get_or l j d) x (order i j d less lt) before
    | inr more ↦ subst (λ k. o.is_before (get_or l k d) x ≡ true) (omega arith) before
  ]

-- with an item between those before and those behind it
module _ {X : Type 0} (R : X → X → Type 0) (l : List X) (at : ℕ) (x : X) (within : at ≤ length l) (pairs : AllPairs R l) (below : (k : ℕ) (d : X) → k < at → R (get_or l k d) x) (above : (k : ℕ) (d : X) → at ≤ k → k < length l → R x (get_or l k d)) where
  ahead : (k : ℕ) (d : X) → k < at → get_or l k d ≡ get_or (insert l at x) k d
  ahead k d lt = sym (get_or-insert_below l at x d k lt within)

  there : (k : ℕ) (d : X) → at ≡ k → x ≡ get_or (insert l at x) k d
  there k d e = sym (ap (λ m. get_or (insert l at x) m d) (sym e) ∙ get_or-insert_at l at x d within)

  behind : (k : ℕ) (d : X) → at < k → get_or l (k - 1) d ≡ get_or (insert l at x) k d
  behind k d lt = sym (ap (λ m. get_or (insert l at x) m d) (omega arith) ∙ get_or-insert_above l at x d (k - 1) (omega arith) within)

  both : {a b c d : X} → a ≡ b → c ≡ d → R a c → R b d
  both {a} {b} {c} {d} e f r = subst (λ y. R b y) f (subst (λ y. R y c) e r)

  pub pairs-insert : AllPairs R (insert l at x)
  pairs-insert i j d lt short =
      let long : j < length l + 1 = omega (arith, length-insert l at x within) in
      elim (cases_lt i at) [
        | inl front ↦ elim (cases_lt j at) [
          | inl less ↦ both (ahead i d front) (ahead j d less) (pairs i j d lt (omega arith))
          | inr more ↦ elim (cases_lt at j) [
            | inl past ↦ both (ahead i d front) (behind j d past) (pairs i (j - 1) d (omega arith) (omega arith))
            | inr same ↦ both (ahead i d front) (there j d (omega arith)) (below i d front)
          ]
        ]
        | inr more ↦ elim (cases_lt at i) [
          | inl past ↦ both (behind i d past) (behind j d (omega arith)) (pairs (i - 1) (j - 1) d (omega arith) (omega arith))
          | inr same ↦ both (there i d (omega arith)) (behind j d (omega arith)) (above (j - 1) d (omega arith) (omega arith))
        ]
      ]

-- what is partitioned is so at the count of what passes
module _ {X : Type 0} (p : X → Bool) (l : List X) (parts : IsPartitionedBy p l) where
  abbrev place : ℕ
  place = position_or_len (λ y. not (p y)) l

  place_within : place ≤ length l
  place_within = prefix_len-le-length (λ y. not (not (p y))) l

  fails : (k : ℕ) (d : X) → place ≤ k → k < length l → p (get_or l k d) ≡ false
  fails k d le lt = elim (cases_Bool (p (get_or l k d))) [
    | inl pass ↦ elim (both_ways (p (get_or l place d)) (not-true (p (get_or l place d)) (passes_at_first (λ y. not (p y)) l d (omega arith))) (parts place k d le lt pass)) [ ]
    | inr fail ↦ fail
  ]

  pub point_at_count : X → IsPartitionPoint (λ y. p y ≡ true) (λ y. p y ≡ false) l (count_by p l)
  point_at_count x =
      let point : IsPartitionPoint (λ y. p y ≡ true) (λ y. p y ≡ false) l place = ((λ k d le lt. not-false (p (get_or l k d)) (fails_before_first (λ y. not (p y)) l k d lt)), (λ k d le lt. fails k d le lt)) in
      subst (IsPartitionPoint (λ y. p y ≡ true) (λ y. p y ≡ false) l) (sym (count_at_point p l place place_within point x)) point

-- where none is found, none passes
module _ {X : Type 0} (p : X → Bool) where
  first_fails : (y : X) (b : Bool) (o : Option X) → is_some (if b then Some y else o) ≡ false → (b ≡ false) × (is_some o ≡ false)
  first_fails y true o e = absurd (true≢false e)
  first_fails y false o e = (refl, e)

  pub none_found : (l : List X) → is_some (find p l) ≡ false → (k : ℕ) (d : X) → k < length l → p (get_or l k d) ≡ false
  none_found [] e k d lt = absurd (omega arith)
  none_found (y ∷ l) e zero d lt = (first_fails y (p y) (find p l) e).0
  none_found (y ∷ l) e (suc k) d lt = none_found l (first_fails y (p y) (find p l) e).1 k d (omega arith)

module _ {T : Type 0} (o : Order T) (strict : IsStrict o) (x : T) (l : List T) (order : IsInOrder o l) (new : stands o (o.number x) l ≡ false) where
  point : IsPartitionPoint (λ y. o.is_before y x ≡ true) (λ y. o.is_before y x ≡ false) l (rank_of o x l)
  point = point_at_count (λ y. o.is_before y x) l (partitioned o strict x l order) x

  rank_within : rank_of o x l ≤ length l
  rank_within = count_by-le-length (λ y. o.is_before y x) l

  other_number : (k : ℕ) (d : T) → k < length l → o.number (get_or l k d) ≢ o.number x
  other_number k d lt e = both_ways (o.number (get_or l k d) == o.number x) (none_found (λ y. o.number y == o.number x) l new k d lt) (eq-eqb (o.number (get_or l k d)) (o.number x) e)

  pub in_order-with : IsInOrder o (with_item o x l)
  in_order-with = pairs-insert (λ y z. o.is_before y z ≡ true) l (rank_of o x l) x rank_within order (λ k d lt. point.0 k d (omega arith) lt)
      (λ k d le lt. strict.never_tie (get_or l k d) x (other_number k d lt) (point.1 k d le lt))

  pub numbers_once-with : HasNumbersOnce o l → HasNumbersOnce o (with_item o x l)
  numbers_once-with once = pairs-insert (λ y z. o.number y ≢ o.number z) l (rank_of o x l) x rank_within once (λ k d lt. other_number k d (omega (arith, rank_within)))
      (λ k d le lt e. other_number k d lt (sym e))

-- all that pass but the one at a place
module _ {X : Type 0} (p : X → Bool) where
  all_pass : (l : List X) → ((k : ℕ) (d : X) → k < length l → p (get_or l k d) ≡ true) → filter p l ≡ l
  all_pass [] each = refl
  all_pass (y ∷ l) each = ap (λ b. if b then y ∷ filter p l else filter p l) (each 0 y (omega arith)) ∙ ap (λ m. y ∷ m) (all_pass l (λ k d lt. each (suc k) d (omega arith)))

  pub all_but : (l : List X) (i : ℕ) → i < length l → ((d : X) → p (get_or l i d) ≡ false) → ((k : ℕ) (d : X) → k ≢ i → k < length l → p (get_or l k d) ≡ true) → filter p l ≡ remove l i
  all_but [] i lt fails others = absurd (omega arith)
  all_but (y ∷ l) zero lt fails others = ap (λ b. if b then y ∷ filter p l else filter p l) (fails y) ∙ all_pass l (λ k d short. others (suc k) d (λ e. absurd (omega arith)) (omega arith))
  all_but (y ∷ l) (suc i) lt fails others =
      ap (λ b. if b then y ∷ filter p l else filter p l) (others 0 y (λ e. absurd (omega arith)) (omega arith))
      ∙ ap (λ m. y ∷ m) (all_but l i (omega arith) (λ d. fails d) (λ k d ne short. others (suc k) d (λ e. ne (omega arith)) (omega arith)))

-- the items of other numbers are all but the one at the place of the number
module _ {T : Type 0} (o : Order T) (n : ℕ) (l : List T) (once : HasNumbersOnce o l) where
  abbrev at : ℕ
  at = position_or_len (λ y. o.number y == n) l

  number_there : at < length l → (d : T) → o.number (get_or l at d) ≡ n
  number_there lt d = eqb-true (o.number (get_or l at d)) n (passes_at_first (λ y. o.number y == n) l d lt)

  different : at < length l → (k : ℕ) (d : T) → k ≢ at → k < length l → o.number (get_or l k d) ≢ n
  different lt k d ne short e = elim (cases_lt k at) [
    | inl less ↦ once k at d less lt (e ∙ sym (number_there lt d))
    | inr more ↦ once at k d (omega arith) short (number_there lt d ∙ sym e)
  ]

  pub without-at : at < length l → without o n l ≡ remove l at
  without-at lt = all_but (λ y. not (o.number y == n)) l at lt
      (λ d. ap not (eq-eqb (o.number (get_or l at d)) n (number_there lt d)))
      (λ k d ne short. ap not (ne_eqb (o.number (get_or l k d)) n (different lt k d ne short)))

  found_within : is_some (item_of o n l) ≡ true → at < length l
  found_within e = elim (cases_lt at (length l)) [
    | inl lt ↦ lt
    | inr le ↦ absurd (true≢false (sym e ∙ ap is_some (find_at (λ y. o.number y == n) l ∙ slice_get_past l at le)))
  ]

  pub length-without : is_some (item_of o n l) ≡ true → length (without o n l) + 1 ≡ length l
  length-without e =
      let lt : at < length l = found_within e in
      ap (λ m. length m + 1) (without-at lt) ∙ length-remove l at lt

  -- what is left without the item at the place of the number
  pub without_found : (i : ℕ) → Some i ≡ position (λ y. o.number y == n) l → remove l i ≡ without o n l
  without_found i e =
      let place = placed (λ y. o.number y == n) l i (sym e) in
      ap (remove l) place.0 ∙ sym (without-at (subst (λ k. k < length l) place.0 place.1))
