-- What is found under a number with one item more, and without those of a number.
use Rattle.std.proofs.Common.{◌≡◌, ℕ, ◌<◌, ◌==◌, nat_lt, Bool, true, false, not, List, [], ◌∷◌, length, take, drop, get_or, slice_get, Some, None, Option, is_some, option_and_then, if◌then◌else◌, refl, sym, ap, ◌∙◌, arith}
use Rattle.std.specs.List.{Contains, find, insert, position, position_or_len}
use Rattle.std.specs.Option.{option_or}
use Rattle.std.proofs.lemmas.Bool.{eq-eqb, eqb-false, eqb-true, ltb-false, ltb-true, ne_eqb}
use Rattle.std.proofs.lemmas.List.{take-append-drop}
use Rattle.std.proofs.lemmas.List.Folds.{find-append, find_at}
use Rattle.std.proofs.lemmas.List.Sums.{position_or_len_is}
use Rattle.std.proofs.lemmas.Option.{get_or_from_slice_get, slice_get-get_or, slice_get_past, slice_get_within}
use Rattle.ladders.specs.Lists.{item_of, without}
use Rattle.ladders.specs.Orders.{HasNumbersOnce, Order}

module _ {X : Type 0} (p : X → Bool) where
  neither : (a b : Option X) → option_or a b ≡ None → a ≡ None
  neither None b e = refl
  neither (Some x) b e = e

  by_test : (l : List X) (i : ℕ) (x : X) (b : Bool) → (b ≡ true → find p l ≡ None) → option_or (find p (take i l)) (if b then Some x else find p (drop i l)) ≡ (if b then Some x else find p l)
  by_test l i x true none =
      let parts : option_or (find p (take i l)) (find p (drop i l)) ≡ None = sym (find-append p (take i l) (drop i l)) ∙ ap (find p) (take-append-drop i l) ∙ none refl in
      ap (λ o. option_or o (Some x)) (neither (find p (take i l)) (find p (drop i l)) parts)
  by_test l i x false none = sym (find-append p (take i l) (drop i l)) ∙ ap (find p) (take-append-drop i l)

  -- with an item put in that no other passes beside
  pub find-insert : (l : List X) (i : ℕ) (x : X) → (p x ≡ true → find p l ≡ None) → find p (insert l i x) ≡ (if p x then Some x else find p l)
  find-insert l i x none = find-append p (take i l) (x ∷ drop i l) ∙ by_test l i x (p x) none

  -- what is found is in the list
  pub Contains-found : (l : List X) (x : X) → find p l ≡ Some x → Contains l x
  Contains-found l x e =
      let at : slice_get l (position_or_len p l) ≡ Some x = sym (find_at p l) ∙ e in
      (position_or_len p l, slice_get_within l (position_or_len p l) x at, get_or_from_slice_get l (position_or_len p l) x x at)

module _ {T : Type 0} (o : Order T) where
  none_more : (b : Bool) (z : Option T) → z ≡ None → z ≡ (if b then None else z)
  none_more true z e = e
  none_more false z e = refl

  -- by whether the first item has the number n, n is the number k, and the first item has the number k
  one_more : (k : ℕ) (y : T) (found : Option T) (l : List T) (a b c : Bool) → (o.number y == k) ≡ c → (a ≡ true → c ≡ b) → (a ≡ false → b ≡ true → c ≡ false) → item_of o k l ≡ (if b then None else found) → item_of o k (if not a then y ∷ l else l) ≡ (if b then None else if c then Some y else found)
  one_more k y found l true true c h f g e = e
  one_more k y found l true false c h f g e = e ∙ ap (λ d. if d then Some y else found) (sym (f refl))
  one_more k y found l false true c h f g e = ap (λ d. if d then Some y else item_of o k l) (h ∙ g refl refl) ∙ e
  one_more k y found l false false c h f g e = ap (λ d. if d then Some y else item_of o k l) h ∙ ap (λ z. if c then Some y else z) e

  -- under a number, without the items of the number n
  pub item_of-without : (n k : ℕ) (l : List T) → item_of o k (without o n l) ≡ (if n == k then None else item_of o k l)
  item_of-without n k [] = none_more (n == k) None refl
  item_of-without n k (y ∷ l) =
      one_more k y (item_of o k l) (without o n l) (o.number y == n) (n == k) (o.number y == k) refl
      (λ e. ap (λ m. m == k) (eqb-true (o.number y) n e))
      (λ e f. ne_eqb (o.number y) k (λ same. eqb-false (o.number y) n e (same ∙ sym (eqb-true n k f))))
      (item_of-without n k l)

  -- an item is found under its number, where each number stands once
  pub found_once : (x : T) (l : List T) → HasNumbersOnce o l → Contains l x → item_of o (o.number x) l ≡ Some x
  found_once x l once (k, lt, e) =
      let has : T → Bool = λ y. o.number y == o.number x in
      let same : o.number (get_or l k x) ≡ o.number x = ap o.number e in
      let others : (j : ℕ) → j < k → has (get_or l j x) ≡ false = λ j less. ne_eqb (o.number (get_or l j x)) (o.number x) (λ f. once j k x less lt (f ∙ sym same)) in
      let place : position_or_len has l ≡ k = position_or_len_is has l k x (omega arith) others (λ _. eq-eqb (o.number (get_or l k x)) (o.number x) same) in
      find_at has l ∙ ap (slice_get l) place ∙ slice_get-get_or l k x lt ∙ ap (λ y. Some y) e

-- the first place of what passes, and what is found there
module _ {X : Type 0} where
  some_within : (l : List X) (k : ℕ) → k < length l → is_some (slice_get l k) ≡ true
  some_within [] k lt = absurd (omega arith)
  some_within (y ∷ l) k lt = ap is_some (slice_get-get_or (y ∷ l) k y lt)

module _ {X : Type 0} (p : X → Bool) (l : List X) where
  by_room : (k : ℕ) (room : Bool) → nat_lt k (length l) ≡ room → is_some (if room then Some k else None) ≡ is_some (slice_get l k)
  by_room k true e = sym (some_within l k (ltb-true k (length l) e))
  by_room k false e = sym (ap is_some (slice_get_past l k (ltb-false k (length l) e)))

  -- there is one exactly where one is found
  pub placed_where_found : is_some (position p l) ≡ is_some (find p l)
  placed_where_found = by_room (position_or_len p l) (nat_lt (position_or_len p l) (length l)) refl ∙ ap is_some (sym (find_at p l))

  by_place : (k i : ℕ) (room : Bool) → nat_lt k (length l) ≡ room → (if room then Some k else None) ≡ Some i → (i ≡ k) × (i < length l)
  by_place k i true e f =
      let same : i ≡ k = cc in
      (same, omega (arith, same, ltb-true k (length l) e))
  by_place k i false e f = cc

  pub placed : (i : ℕ) → position p l ≡ Some i → (i ≡ position_or_len p l) × (i < length l)
  placed i e = by_place (position_or_len p l) i (nat_lt (position_or_len p l) (length l)) refl e

  by_position : (k : ℕ) (room : Bool) → nat_lt k (length l) ≡ room → slice_get l k ≡ option_and_then (λ i. slice_get l i) (if room then Some k else None)
  by_position k true e = refl
  by_position k false e = slice_get_past l k (ltb-false k (length l) e)

  -- what is found stands at the place
  pub found_at_place : find p l ≡ option_and_then (λ i. slice_get l i) (position p l)
  found_at_place = find_at p l ∙ by_position (position_or_len p l) (nat_lt (position_or_len p l) (length l)) refl
