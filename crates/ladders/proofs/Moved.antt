-- Moving the items behind a place by one place in their memory.
use Rattle.std.proofs.Common.{◌≡◌, ℕ, ◌+◌, ◌-◌, ◌<◌, ◌≤◌, suc, List, [], ◌∷◌, ◌++◌, length, take, drop, get_or, set, refl, sym, ap, ◌∙◌, subst, arith, drop-cons}
use Rattle.std.specs.List.{insert, remove}
use Rattle.std.proofs.lemmas.List.{append-nil, append_assoc, drop-append-le, drop-drop, drop-set-lt, drop-take, drop_all, drop_at, length-append, length-drop, length-take-le, set_at, take-append-drop, take-set-le, take-take, take_all, take_at, take_more_set}
use Rattle.std.proofs.Math.Seq.{drop-append-add, take-add, take-append-add}
use Rattle.std.proofs.lemmas.List.Edits.{length-remove}
use Rattle.std.proofs.lemmas.Slice.{put_mid-paste}
use borrow.Rule.Slice.PartMut.{put_mid}

module _ {X : Type 0} where
  -- the part of the first n from `at` on
  part : (l : List X) (at n : ℕ) → at ≤ n → drop at (take n l) ≡ take (n - at) (drop at l)
  part l at n le =
      let e : at + (n - at) ≡ n = omega arith in
      subst (λ m. drop at (take m l) ≡ take (n - at) (drop at l)) e (drop-take at (n - at) l)

  -- the last turned to the front
  last_first : (q ys : List X) (x : X) → ys ≡ drop (length (q ++ x ∷ []) - 1) (q ++ x ∷ []) ++ take (length (q ++ x ∷ []) - 1) (q ++ x ∷ []) → ys ≡ x ∷ q
  last_first q ys x e =
      let short : length (q ++ x ∷ []) - 1 ≡ length q = omega (arith, length-append q (x ∷ [])) in
      e
      ∙ ap (λ m. drop m (q ++ x ∷ []) ++ take m (q ++ x ∷ [])) short
      ∙ ap (λ l. l ++ take (length q) (q ++ x ∷ [])) (drop_at q (x ∷ []) (length q) refl)
      ∙ ap (λ l. x ∷ l) (take_at q (x ∷ []) (length q) refl)

-- the first is turned to a place
module _ {X : Type 0} (old : List X) where
  pub record TurnedTo (place : ℕ) (now : List X) : Type 0 where
    pub within : place ≤ length old
    pub items : now ≡ take place (drop 1 old) ++ (take 1 old ++ drop (place + 1) old)

  pub not_turned : TurnedTo 0 old
  not_turned = record { within = omega arith; items = sym (take-append-drop 1 old) }

  -- by some more places
  turned_by : (place some : ℕ) (now ys : List X) → 1 < some → place + some ≤ length old → TurnedTo place now → ys ≡ drop 1 (take some (drop place now)) ++ take 1 (take some (drop place now)) → TurnedTo (place + (some - 1)) (put_mid place some now ys)
  turned_by place some now ys more room t turned =
      let first = take 1 old in
      let d = drop (place + 1) old in
      let q = take place (drop 1 old) in
      let k = some - 1 in
      let one : length first ≡ 1 = length-take-le 1 old (omega arith) in
      let long : length q ≡ place = length-take-le place (drop 1 old) (omega (arith, length-drop 1 old)) in
      let size : some ≡ length first + k = omega (arith, one) in
      let left : drop place now ≡ first ++ d = ap (drop place) t.items ∙ drop_at q (first ++ d) place long in
      let part : take some (drop place now) ≡ first ++ take k d = ap (take some) left ∙ ap (λ m. take m (first ++ d)) size ∙ take-append-add first d k in
      let front : ys ≡ take k d ++ first =
      turned
      ∙ ap (λ p. drop 1 p ++ take 1 p) part
      ∙ ap (λ l. l ++ take 1 (first ++ take k d)) (drop_at first (take k d) 1 one)
      ∙ ap (λ l. take k d ++ l) (take_at first (take k d) 1 one) in
      let few : length (take k d) ≡ k = length-take-le k d (omega (arith, length-drop (place + 1) old)) in
      let whole : some ≡ length (take k d ++ first) = omega (arith, one, few, length-append (take k d) first) in
      let front_kept : take place now ≡ q = ap (take place) t.items ∙ take_at q (first ++ d) place long in
      let rest : drop (place + some) now ≡ drop (place + k + 1) old =
      sym (drop-drop some place now)
      ∙ ap (drop some) left
      ∙ ap (λ m. drop m (first ++ d)) size
      ∙ drop-append-add first d k
      ∙ drop-drop k (place + 1) old
      ∙ ap (λ m. drop m old) (omega arith) in
      let joined : q ++ take k d ≡ take (place + k) (drop 1 old) =
      ap (λ l. q ++ take k l) (ap (λ m. drop m old) (omega arith) ∙ sym (drop-drop place 1 old)) ∙ sym (take-add place k (drop 1 old)) in
      record {
        within = omega arith;
        items =
            put_mid-paste place some now ys (take k d ++ first) some front refl whole
            ∙ ap (λ l. l ++ take some (take k d ++ first) ++ drop (place + some) now) front_kept
            ∙ ap (λ l. q ++ l ++ drop (place + some) now) (take_all some (take k d ++ first) (omega (arith, whole)))
            ∙ ap (λ l. q ++ (take k d ++ first) ++ l) rest
            ∙ ap (λ l. l ++ drop (place + k + 1) old) (sym (append_assoc q (take k d) first))
            ∙ append_assoc (q ++ take k d) first (drop (place + k + 1) old)
            ∙ ap (λ l. l ++ (first ++ drop (place + k + 1) old)) joined;
      }

  pub turned_on : (place some width : ℕ) (now ys : List X) → width ≡ some → 1 < some → place + some ≤ length old → TurnedTo place now → ys ≡ drop 1 (take width (drop place now)) ++ take 1 (take width (drop place now)) → TurnedTo (place + (some - 1)) (put_mid place width now ys)
  turned_on place some width now ys e more room t turned =
      subst (λ m. TurnedTo (place + (m - 1)) (put_mid place width now ys)) e (turned_by place width now ys (omega (arith, e)) (omega (arith, e)) t turned)

  pub all_turned : (place : ℕ) (now : List X) → length old ≤ place + 1 → TurnedTo place now → now ≡ drop 1 old ++ take 1 old
  all_turned place now past t =
      t.items
      ∙ ap (λ l. l ++ (take 1 old ++ drop (place + 1) old)) (take_all place (drop 1 old) (omega (arith, length-drop 1 old)))
      ∙ ap (λ l. drop 1 old ++ (take 1 old ++ l)) (drop_all (place + 1) old past)
      ∙ ap (λ l. drop 1 old ++ l) (append-nil (take 1 old))

module _ {X : Type 0} (old : List X) where
  -- up by one, the item behind them turned to the place that is made
  pub moved_up : (n at : ℕ) (x : X) (ys : List X) → n < length old → at ≤ n → ys ≡ drop (length (take (n + 1 - at) (drop at (set old n x))) - 1) (take (n + 1 - at) (drop at (set old n x))) ++ take (length (take (n + 1 - at) (drop at (set old n x))) - 1) (take (n + 1 - at) (drop at (set old n x))) → put_mid at (n + 1 - at) (set old n x) ys ≡ insert (take n old) at x ++ drop (n + 1) old
  moved_up n at x ys room within turned =
      let s = set old n x in
      let q = drop at (take n old) in
      let long : length (take n old) ≡ n = length-take-le n old (omega arith) in
      let behind : take (n + 1 - at) (drop at s) ≡ q ++ x ∷ [] =
      sym (part s at (n + 1) (omega arith)) ∙ ap (drop at) (take_more_set old n x room) ∙ drop-append-le at (take n old) (x ∷ []) (omega (arith, long)) in
      let front : ys ≡ x ∷ q = last_first q ys x (turned ∙ ap (λ p. drop (length p - 1) p ++ take (length p - 1) p) behind) in
      let size : n + 1 - at ≡ length (x ∷ q) = omega (arith, long, length-drop at (take n old)) in
      let end : at + (n + 1 - at) ≡ n + 1 = omega arith in
      put_mid-paste at (n + 1 - at) s ys (x ∷ q) (n + 1 - at) front refl size
      ∙ ap (λ l. l ++ take (n + 1 - at) (x ∷ q) ++ drop (at + (n + 1 - at)) s) (take-set-le at old n x within ∙ sym (take-take at n old within))
      ∙ ap (λ l. take at (take n old) ++ l ++ drop (at + (n + 1 - at)) s) (take_all (n + 1 - at) (x ∷ q) (omega (arith, size)))
      ∙ ap (λ m. take at (take n old) ++ x ∷ q ++ drop m s) end
      ∙ ap (λ l. take at (take n old) ++ x ∷ q ++ l) (drop-set-lt (n + 1) old n x (omega arith))

  -- down by one, over the item at a place; the last stays behind them too
  pub moved_down : (n at : ℕ) (y : X) (ys : List X) → n ≤ length old → at < n → y ≡ get_or old (n - 1) y → ys ≡ drop 1 (take (n - at) (drop at old)) ++ take 1 (take (n - at) (drop at old)) → set (put_mid at (n - at) old ys) (n - 1) y ≡ remove (take n old) at ++ drop (n - 1) old
  moved_down n at y ys room within last turned =
      let a = take n old in
      let x = get_or a at y in
      let r = drop (suc at) a in
      let long : length a ≡ n = length-take-le n old room in
      let behind : take (n - at) (drop at old) ≡ x ∷ r = sym (part old at n (omega arith)) ∙ drop-cons a at y (omega (arith, long)) in
      let front : ys ≡ r ++ x ∷ [] = turned ∙ ap (λ p. drop 1 p ++ take 1 p) behind in
      let size : n - at ≡ length (r ++ x ∷ []) = omega (arith, long, length-drop (suc at) a, length-append r (x ∷ [])) in
      let end : at + (n - at) ≡ n = omega arith in
      let short : length (remove a at) ≡ n - 1 = omega (arith, long, length-remove a at (omega (arith, long))) in
      let next : suc (n - 1) ≡ n = omega arith in
      let moved : put_mid at (n - at) old ys ≡ remove a at ++ x ∷ drop n old =
      put_mid-paste at (n - at) old ys (r ++ x ∷ []) (n - at) front refl size
      ∙ ap (λ l. l ++ take (n - at) (r ++ x ∷ []) ++ drop (at + (n - at)) old) (sym (take-take at n old (omega arith)))
      ∙ ap (λ l. take at a ++ l ++ drop (at + (n - at)) old) (take_all (n - at) (r ++ x ∷ []) (omega (arith, size)))
      ∙ ap (λ m. take at a ++ (r ++ x ∷ []) ++ drop m old) end
      ∙ ap (λ l. l ++ drop n old) (sym (append_assoc (take at a) r (x ∷ [])))
      ∙ append_assoc (remove a at) (x ∷ []) (drop n old) in
      ap (λ l. set l (n - 1) y) moved
      ∙ set_at (remove a at) x (drop n old) y (n - 1) short
      ∙ ap (λ l. remove a at ++ l) (ap (λ m. y ∷ drop m old) (sym next) ∙ ap (λ z. z ∷ drop (suc (n - 1)) old) last ∙ sym (drop-cons old (n - 1) y (omega arith)))
