-- What is left to add and to withdraw, call after call.
use Rattle.std.proofs.Common.{◌≡◌, ℕ, ◌+◌, ◌<◌, ◌≤◌, cond, List, [], ◌∷◌, ◌++◌, length, take, drop, get_or, set, Ok, Err, Result, is_ok, inl, inr, refl, sym, ap, ◌∙◌, subst, arith, append_assoc, add-one, drop-cons}
use Rattle.std.specs.Result.{result_unwrap_or}
use Rattle.std.proofs.lemmas.Bool.{cases_lt}
use Rattle.std.proofs.lemmas.List.{drop-set-lt, drop_all, set_past, take-append-drop, take_all, take_more_set}
use Rattle.std.proofs.lemmas.List.Sums.{sum_by-cons}
use Rattle.ladders.specs.Lists.{after_adding}
use Rattle.ladders.specs.declared.fault.LadderFault.{LadderFault}
use Rattle.bids.specs.Merit.{up_order}
use Rattle.bids.specs.declared.kinds.UpBid.{UpBid}
use Rattle.exports.specs.BenchLadders.{adding_answers, after_adding_all, after_one_added, count_accepted, one_added, ranks_over, up_bid, withdrawing_answers}
use Rattle.exports.specs.declared.plain.PlainBid.{PlainBid}

-- one accepted or refused more
abbrev pub counted : {X : Type 0} → ℕ → Result X LadderFault → ℕ
counted n a = n + cond (is_ok a) 1 0

counted_first : {X : Type 0} (n : ℕ) (a : Result X LadderFault) (rest : List (Result X LadderFault)) → counted n a + count_accepted rest ≡ n + count_accepted (a ∷ rest)
counted_first n (Ok x) rest = omega (arith, sum_by-cons (λ a. cond (is_ok a) 1 0) (Ok x) rest)
counted_first n (Err f) rest = omega (arith, sum_by-cons (λ a. cond (is_ok a) 1 0) (Err f) rest)

-- THE RANKS

nowhere : (answers : List (Result ℕ LadderFault)) → ranks_over answers [] ≡ []
nowhere [] = refl
nowhere (a ∷ rest) = refl

first_left : {X : Type 0} (xs : List X) (i : ℕ) (d : X) → i < length xs → drop i xs ≡ get_or xs i d ∷ drop (i + 1) xs
first_left xs i d lt = drop-cons xs i d lt ∙ ap (λ k. get_or xs i d ∷ drop k xs) (sym (add-one i))

-- the rank of an answer in its place, and the others behind it
one_ranked : (a : Result ℕ LadderFault) (rest : List (Result ℕ LadderFault)) (xs : List ℕ) (i d : ℕ) → take (i + 1) (set xs i (result_unwrap_or a (get_or xs i d))) ++ ranks_over rest (drop (i + 1) (set xs i (result_unwrap_or a (get_or xs i d)))) ≡ take i xs ++ ranks_over (a ∷ rest) (drop i xs)
one_ranked a rest xs i d =
    let x = result_unwrap_or a (get_or xs i d) in
    elim (cases_lt i (length xs)) [
      | inl lt ↦
          let behind : drop (i + 1) (set xs i x) ≡ drop (i + 1) xs = drop-set-lt (i + 1) xs i x (omega arith) in
          ap (λ t. t ++ ranks_over rest (drop (i + 1) (set xs i x))) (take_more_set xs i x lt)
          ∙ ap (λ t. (take i xs ++ x ∷ []) ++ ranks_over rest t) behind
          ∙ append_assoc (take i xs) (x ∷ []) (ranks_over rest (drop (i + 1) xs))
          ∙ ap (λ t. take i xs ++ ranks_over (a ∷ rest) t) (sym (first_left xs i d lt))
      | inr ge ↦
          ap (λ t. take (i + 1) t ++ ranks_over rest (drop (i + 1) t)) (set_past xs i x ge)
          ∙ ap (λ t. t ++ ranks_over rest (drop (i + 1) xs)) (take_all (i + 1) xs (omega arith) ∙ sym (take_all i xs ge))
          ∙ ap (λ t. take i xs ++ ranks_over rest t) (drop_all (i + 1) xs (omega arith))
          ∙ ap (λ t. take i xs ++ t) (nowhere rest)
          ∙ ap (λ t. take i xs ++ ranks_over (a ∷ rest) t) (sym (drop_all i xs ge))
    ]

-- ADDING

-- the first i bids are added, and l stands
pub record AddedTo (bids : List PlainBid) (before : List ℕ) (l : List UpBid) (ranks : List ℕ) (i added : ℕ) : Type 0 where
  pub few : added ≤ i
  pub stand : after_adding_all (drop i bids) l ≡ after_adding_all bids []
  pub accepted : added + count_accepted (adding_answers (drop i bids) l) ≡ count_accepted (adding_answers bids [])
  pub ranked : take i ranks ++ ranks_over (adding_answers (drop i bids) l) (drop i ranks) ≡ ranks_over (adding_answers bids []) before

more : {X : Type 0} (n i : ℕ) (a : Result X LadderFault) → n ≤ i → counted n a ≤ i + 1
more n i (Ok x) le = omega arith
more n i (Err f) le = omega arith

module _ (bids : List PlainBid) (before : List ℕ) where
  with_first : (l : List UpBid) (ranks : List ℕ) (i added : ℕ) (d : PlainBid) (x : ℕ) → i < length bids → AddedTo bids before l ranks i added → AddedTo bids before (after_one_added (get_or bids i d) l) (set ranks i (result_unwrap_or (one_added (get_or bids i d) l) (get_or ranks i x))) (i + 1) (counted added (one_added (get_or bids i d) l))
  with_first l ranks i added d x lt s =
      let left = first_left bids i d lt in
      let b = get_or bids i d in
      let rest = adding_answers (drop (i + 1) bids) (after_one_added b l) in
      record {
        few = more added i (one_added b l) s.few;
        stand = ap (λ bs. after_adding_all bs l) (sym left) ∙ s.stand;
        accepted = counted_first added (one_added b l) rest ∙ ap (λ bs. added + count_accepted (adding_answers bs l)) (sym left) ∙ s.accepted;
        ranked = one_ranked (one_added b l) rest ranks i x ∙ ap (λ bs. take i ranks ++ ranks_over (adding_answers bs l) (drop i ranks)) (sym left) ∙ s.ranked;
      }

  -- one bid more is added or refused
  pub one_more : (l l' : List UpBid) (ranks ranks' : List ℕ) (i added added' : ℕ) (d : PlainBid) (x : ℕ) (a : Result ℕ LadderFault) → i < length bids → AddedTo bids before l ranks i added → a ≡ one_added (get_or bids i d) l → l' ≡ after_adding up_order (up_bid (get_or bids i d)) a l → ranks' ≡ set ranks i (result_unwrap_or a (get_or ranks i x)) → added' ≡ counted added a → AddedTo bids before l' ranks' (i + 1) added'
  one_more l l' ranks ranks' i added added' d x a lt s answered stands put many =
      let b = get_or bids i d in
      subst (λ m. AddedTo bids before m ranks' (i + 1) added') (sym (stands ∙ ap (λ r. after_adding up_order (up_bid b) r l) answered))
      (subst (λ rs. AddedTo bids before (after_one_added b l) rs (i + 1) added') (sym (put ∙ ap (λ r. set ranks i (result_unwrap_or r (get_or ranks i x))) answered))
      (subst (λ n. AddedTo bids before (after_one_added b l) (set ranks i (result_unwrap_or (one_added b l) (get_or ranks i x))) (i + 1) n) (sym (many ∙ ap (counted added) answered))
      (with_first l ranks i added d x lt s)))

  pub all_stand : (l : List UpBid) (ranks : List ℕ) (i added : ℕ) → length bids ≤ i → AddedTo bids before l ranks i added → l ≡ after_adding_all bids []
  all_stand l ranks i added le s = ap (λ bs. after_adding_all bs l) (sym (drop_all i bids le)) ∙ s.stand

  pub all_ranked : (l : List UpBid) (ranks : List ℕ) (i added : ℕ) → length bids ≤ i → AddedTo bids before l ranks i added → ranks ≡ ranks_over (adding_answers bids []) before
  all_ranked l ranks i added le s =
      sym (take-append-drop i ranks)
      ∙ ap (λ bs. take i ranks ++ ranks_over (adding_answers bs l) (drop i ranks)) (sym (drop_all i bids le))
      ∙ s.ranked

-- WITHDRAWING

-- the bids of the first i numbers are withdrawn, and l stands
pub record WithdrawnTo (numbers : List ℕ) (start l : List UpBid) (i withdrawn : ℕ) : Type 0 where
  pub few : withdrawn ≤ i
  pub accepted : withdrawn + count_accepted (withdrawing_answers (drop i numbers) l) ≡ count_accepted (withdrawing_answers numbers start)
