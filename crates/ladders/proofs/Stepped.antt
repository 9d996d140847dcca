-- What stands in the memory after an item is put in or taken out.
use Rattle.std.proofs.Common.{◌≡◌, ◌≢◌, ℕ, ◌+◌, ◌-◌, ◌<◌, ◌≤◌, true, false, List, ◌++◌, length, take, drop, get_or, sym, ap, ◌∙◌, subst, arith}
use Rattle.std.specs.List.{AllPairs, insert, remove}
use Rattle.std.proofs.lemmas.List.{get_or-take, length-append, length-drop, length-take-le, take_at}
use Rattle.std.proofs.lemmas.List.Edits.{length-insert, length-remove}
use Rattle.std.proofs.lemmas.List.Quantifiers.{all_pairs_remove}
use Rattle.std.proofs.lemmas.List.Sums.{count_by-le-length}
use Rattle.ladders.specs.Lists.{rank_of, stands, with_item}
use Rattle.ladders.specs.Orders.{HasNumbersOnce, IsInOrder, IsStrict, Order}
use Rattle.ladders.proofs.Ordered.{in_order-with, numbers_once-with}

-- a front part of a list keeps what each two of it keep
pairs-take : {X : Type 0} (R : X → X → Type 0) (k n : ℕ) (l : List X) → k ≤ n → n ≤ length l → AllPairs R (take n l) → AllPairs R (take k l)
pairs-take R k n l le room pairs i j d lt short =
    let below : j < k = omega (arith, length-take-le k l (omega arith)) in
    let at : (m : ℕ) → m < k → get_or (take n l) m d ≡ get_or (take k l) m d = λ m less. get_or-take n l m d (omega arith) ∙ sym (get_or-take k l m d less) in
    subst (λ y. R y (get_or (take k l) j d)) (at i (omega arith)) (subst (R (get_or (take n l) i d)) (at j below) (pairs i j d lt (omega (arith, length-take-le n l room))))

module _ {T : Type 0} (o : Order T) (k n : ℕ) (l : List T) (le : k ≤ n) (room : n ≤ length l) where
  pub in_order-take : IsInOrder o (take n l) → IsInOrder o (take k l)
  in_order-take = pairs-take (λ x y. o.is_before x y ≡ true) k n l le room

  pub once-take : HasNumbersOnce o (take n l) → HasNumbersOnce o (take k l)
  once-take = pairs-take (λ x y. o.number x ≢ o.number y) k n l le room

module _ {T : Type 0} (o : Order T) (count : ℕ) (old new : List T) where
  module _ (x : T) (rank : ℕ) (room : count < length old) (counts : rank ≡ rank_of o x (take count old)) (made : new ≡ insert (take count old) rank x ++ drop (count + 1) old) where
    ranked : rank ≤ length (take count old)
    ranked = subst (λ m. m ≤ length (take count old)) (sym counts) (count_by-le-length (λ y. o.is_before y x) (take count old))

    long : length (insert (take count old) rank x) ≡ count + 1
    long = length-insert (take count old) rank x ranked ∙ ap (λ m. m + 1) (length-take-le count old (omega arith))

    pub with_item-stands : take (count + 1) new ≡ with_item o x (take count old)
    with_item-stands = ap (take (count + 1)) made ∙ take_at (insert (take count old) rank x) (drop (count + 1) old) (count + 1) long ∙ ap (λ m. insert (take count old) m x) counts

    pub length-with : length new ≡ length old
    length-with = ap length made ∙ length-append (insert (take count old) rank x) (drop (count + 1) old) ∙ omega (arith, long, length-drop (count + 1) old)

    module _ (strict : IsStrict o) (order : IsInOrder o (take count old)) (once : HasNumbersOnce o (take count old)) (fresh : stands o (o.number x) (take count old) ≡ false) where
      pub in_order-then : IsInOrder o (take (count + 1) new)
      in_order-then = subst (IsInOrder o) (sym with_item-stands) (in_order-with o strict x (take count old) order fresh)

      pub once-then : HasNumbersOnce o (take (count + 1) new)
      once-then = subst (HasNumbersOnce o) (sym with_item-stands) (numbers_once-with o strict x (take count old) order fresh once)

  module _ (at : ℕ) (room : count ≤ length old) (within : at < length (take count old)) (made : new ≡ remove (take count old) at ++ drop (count - 1) old) where
    short : length (remove (take count old) at) ≡ count - 1
    short = omega (arith, within, length-remove (take count old) at within, length-take-le count old room)

    pub rest-stands : take (count - 1) new ≡ remove (take count old) at
    rest-stands = ap (take (count - 1)) made ∙ take_at (remove (take count old) at) (drop (count - 1) old) (count - 1) short

    pub length-out : length new ≡ length old
    length-out = ap length made ∙ length-append (remove (take count old) at) (drop (count - 1) old) ∙ omega (arith, short, within, length-take-le count old room, length-drop (count - 1) old)

    pub in_order-out : IsInOrder o (take count old) → IsInOrder o (take (count - 1) new)
    in_order-out order = subst (IsInOrder o) (sym rest-stands) (all_pairs_remove (λ y z. o.is_before y z ≡ true) (take count old) at within order)

    pub once-out : HasNumbersOnce o (take count old) → HasNumbersOnce o (take (count - 1) new)
    once-out once = subst (HasNumbersOnce o) (sym rest-stands) (all_pairs_remove (λ y z. o.number y ≢ o.number z) (take count old) at within once)
