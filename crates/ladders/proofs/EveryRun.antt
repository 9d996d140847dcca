-- Each call leads from what is sound to what is sound.
use Rattle.std.proofs.Common.{◌≡◌, ◌≢◌, ◌↔◌, ℕ, ◌+◌, ◌<◌, ◌==◌, Bool, true, false, not, List, [], ◌∷◌, length, if◌then◌else◌, Some, None, Ok, Err, Option, Result, is_some, nat_lt, ok_or, refl, sym, ap, ◌∙◌, subst, arith}
use Rattle.std.specs.List.{Contains, count_by}
use Rattle.std.specs.Option.{option_map_or, unwrap_or}
use Rattle.std.proofs.lemmas.Bool.{eqb-true, ltb-true, true≢false}
use Rattle.std.proofs.lemmas.List.Edits.{length-insert}
use Rattle.std.proofs.lemmas.List.Kept.{AllPairs-filter}
use Rattle.std.proofs.lemmas.List.Sums.{count_by-le-length, sum_by-cons}
use Rattle.ladders.specs.Ladders.{IsSoundCall, Leads, items_in, places_in}
use Rattle.ladders.specs.Lists.{adding_answer, adding_fault, withdrawing_answer, after_adding, after_withdrawing, item_of, rank_of, stands, with_item, without}
use Rattle.ladders.specs.Orders.{HasNumbersOnce, IsStrict, Order}
use Rattle.ladders.specs.Runs.{AllAnswered, Did, Event, Run, Sound, adding, adds, after, begun, count_after, fault_of, made_of, standing_after, withdrawing, withdraws}
use Rattle.ladders.specs.declared.fault.LadderFault.{LadderFault}
use Rattle.ladders.specs.declared.fault.LadderFault.TheVariants.{Full, NotStanding, Standing}
use Rattle.ladders.specs.declared.ladder.Ladder.{Ladder}
use Rattle.ladders.proofs.Found.{Contains-found, find-insert, found_once, item_of-without}
use Rattle.ladders.proofs.Ordered.{in_order-with, length-without, numbers_once-with}

-- what an answer says of the fault
module _ {X : Type 0} where
  fault_stays : (f : Option LadderFault) (x : X) → fault_of (option_map_or Err f (Ok x)) ≡ f
  fault_stays None x = refl
  fault_stays (Some f) x = refl

-- where a test finds no fault
unless_full : (room : Bool) (f : LadderFault) → (if room then None else Some f) ≡ None → room ≡ true
unless_full true f e = refl
unless_full false f e = cc

unless_standing : (standing : Bool) (f : LadderFault) (rest : Option LadderFault) → (if standing then Some f else rest) ≡ None → (standing ≡ false) × (rest ≡ None)
unless_standing true f rest e = cc
unless_standing false f rest e = (refl, e)

module _ {X : Type 0} where
  count_more : (p : X → Bool) (x : X) (l : List X) (b : Bool) → p x ≡ b → count_by p (x ∷ l) ≡ (if b then 1 else 0) + count_by p l
  count_more p x l b e = sum_by-cons (λ y. if p y then 1 else 0) x l ∙ ap (λ c. (if c then 1 else 0) + count_by p l) e

  accepted : (f : Option LadderFault) (x y : X) → Ok x ≡ option_map_or Err f (Ok y) → f ≡ None
  accepted None x y e = refl
  accepted (Some f) x y e = cc

  -- a withdrawing is accepted where an item of its number stands
  withdrawn_from : (f : LadderFault) (x : X) (o : Option X) → Ok x ≡ ok_or o f → is_some o ≡ true
  withdrawn_from f x (Some y) e = refl
  withdrawn_from f x None e = cc

  found_none : (o : Option X) → is_some o ≡ false → o ≡ None
  found_none None e = refl
  found_none (Some x) e = absurd (true≢false e)

module _ {T : Type 0} (o : Order T) where
  -- under a number, what the call made or else what stood before
  made_more : (x : T) (b : Bool) (standing : Option T) → (if b then Some x else standing) ≡ unwrap_or (if b then Some (Some x) else None) standing
  made_more x true standing = refl
  made_more x false standing = refl

  made_less : (b : Bool) (standing : Option T) → (if b then None else standing) ≡ unwrap_or (if b then Some None else None) standing
  made_less true standing = refl
  made_less false standing = refl

  -- what stands exactly, by what is found under each number
  exactly : (h : List (Event T)) (l : List T) → HasNumbersOnce o l → ((n : ℕ) → item_of o n l ≡ standing_after o h n) → (x : T) → Contains l x ↔ (standing_after o h (o.number x) ≡ Some x)
  exactly h l once under x = ((λ c. sym (under (o.number x)) ∙ found_once o x l once c), (λ e. Contains-found (λ y. o.number y == o.number x) l x (under (o.number x) ∙ e)))

module _ {T : Type 0} (o : Order T) (strict : IsStrict o) (places : ℕ) (h : List (Event T)) (l : List T) (s : Sound o places h l) where
  count : length l ≡ count_after h
  count = omega (arith, s.counted)

  answered : (e : Event T) (l' : List T) → Did o places e l l' → AllAnswered o places (e ∷ h)
  answered (adding x a) l' d =
      let n : ℕ = o.number x in
      (ap fault_of d.0 ∙ fault_stays (adding_fault n places (length l) (stands o n l)) (rank_of o x l) ∙ ap (λ m. adding_fault n places m (stands o n l)) count ∙ ap (λ z. adding_fault n places (count_after h) (is_some z)) (s.under_number n), s.answers)
  answered (withdrawing n a) l' d = (d.0 ∙ ap (λ z. ok_or z (NotStanding n)) (s.under_number n), s.answers)

  more : (x : T) (rank : ℕ) (l' : List T) → Did o places (adding x (Ok rank)) l l' → Sound o places (adding x (Ok rank) ∷ h) (with_item o x l)
  more x rank l' d =
      let n : ℕ = o.number x in
      let free : adding_fault n places (length l) (stands o n l) ≡ None = accepted (adding_fault n places (length l) (stands o n l)) rank (rank_of o x l) d.0 in
      let parts = unless_standing (stands o n l) (Standing n) (if nat_lt (length l) places then None else Some (Full (length l))) free in
      let room : length l < places = ltb-true (length l) places (unless_full (nat_lt (length l) places) (Full (length l)) parts.1) in
      let under : (m : ℕ) → item_of o m (with_item o x l) ≡ standing_after o (adding x (Ok rank) ∷ h) m =
      λ m. find-insert (λ y. o.number y == m) l (rank_of o x l) x (λ e. ap (λ k. item_of o k l) (sym (eqb-true n m e)) ∙ found_none (item_of o n l) parts.0)
      ∙ ap (λ z. if n == m then Some x else z) (s.under_number m) ∙ made_more o x (n == m) (standing_after o h m) in
      let once : HasNumbersOnce o (with_item o x l) = numbers_once-with o strict x l s.in_order parts.0 s.numbers_once in
      let long : length (with_item o x l) ≡ length l + 1 = length-insert l (rank_of o x l) x (count_by-le-length (λ y. o.is_before y x) l) in
      record {
        exact = exactly o (adding x (Ok rank) ∷ h) (with_item o x l) once under;
        under_number = under;
        in_order = in_order-with o strict x l s.in_order parts.0;
        numbers_once = once;
        counted = omega (arith, s.counted, long, count_more adds (adding x (Ok rank)) h true refl, count_more withdraws (adding x (Ok rank)) h false refl);
        within = omega (arith, long, room);
        answers = answered (adding x (Ok rank)) l' d;
      }

  less : (n : ℕ) (x : T) (l' : List T) → Did o places (withdrawing n (Ok x)) l l' → Sound o places (withdrawing n (Ok x) ∷ h) (without o n l)
  less n x l' d =
      let stood : is_some (item_of o n l) ≡ true = withdrawn_from (NotStanding n) x (item_of o n l) d.0 in
      let under : (m : ℕ) → item_of o m (without o n l) ≡ standing_after o (withdrawing n (Ok x) ∷ h) m =
      λ m. item_of-without o n m l ∙ ap (λ z. if n == m then None else z) (s.under_number m) ∙ made_less o (n == m) (standing_after o h m) in
      let once : HasNumbersOnce o (without o n l) = AllPairs-filter (λ y z. o.number y ≢ o.number z) (λ y. not (o.number y == n)) l s.numbers_once in
      let short : length (without o n l) + 1 ≡ length l = length-without o n l s.numbers_once stood in
      record {
        exact = exactly o (withdrawing n (Ok x) ∷ h) (without o n l) once under;
        under_number = under;
        in_order = AllPairs-filter (λ y z. o.is_before y z ≡ true) (λ y. not (o.number y == n)) l s.in_order;
        numbers_once = once;
        counted = omega (arith, s.counted, short, count_more adds (withdrawing n (Ok x)) h false refl, count_more withdraws (withdrawing n (Ok x)) h true refl);
        within = omega (arith, s.within, short);
        answers = answered (withdrawing n (Ok x)) l' d;
      }

  -- a refused call leaves what was sound
  refused : (e : Event T) (l' : List T) → Did o places e l l' → adds e ≡ false → withdraws e ≡ false → ((n : ℕ) → made_of o n e ≡ None) → Sound o places (e ∷ h) l
  refused e l' d not_added not_withdrawn nothing =
      let under : (m : ℕ) → item_of o m l ≡ standing_after o (e ∷ h) m = λ m. s.under_number m ∙ ap (λ z. unwrap_or z (standing_after o h m)) (sym (nothing m)) in
      record {
        exact = exactly o (e ∷ h) l s.numbers_once under;
        under_number = under;
        in_order = s.in_order;
        numbers_once = s.numbers_once;
        counted = omega (arith, s.counted, count_more adds e h false not_added, count_more withdraws e h false not_withdrawn);
        within = s.within;
        answers = answered e l' d;
      }

  step : (e : Event T) (l' : List T) → Did o places e l l' → Sound o places (e ∷ h) l'
  step (adding x (Ok rank)) l' d = subst (Sound o places (adding x (Ok rank) ∷ h)) (sym d.1) (more x rank l' d)
  step (adding x (Err f)) l' d = subst (Sound o places (adding x (Err f) ∷ h)) (sym d.1) (refused (adding x (Err f)) l' d refl refl (λ n. refl))
  step (withdrawing n (Ok x)) l' d = subst (Sound o places (withdrawing n (Ok x) ∷ h)) (sym d.1) (less n x l' d)
  step (withdrawing n (Err f)) l' d = subst (Sound o places (withdrawing n (Err f) ∷ h)) (sym d.1) (refused (withdrawing n (Err f)) l' d refl refl (λ m. refl))

module _ {T : Type 0} (o : Order T) (strict : IsStrict o) (places : ℕ) where
  pub run_sound : (h : List (Event T)) (l : List T) → Run o places h l → Sound o places h l
  run_sound _ _ begun = record { exact = exactly o [] [] (λ i j d lt short. absurd (omega arith)) (λ n. refl); under_number = λ n. refl; in_order = λ i j d lt short. absurd (omega arith); numbers_once = λ i j d lt short. absurd (omega arith); counted = refl; within = omega arith; answers = tt }
  run_sound _ _ (after h e l l' run did) = step o strict places h l (run_sound h l run) e l' did

module _ {T : Type 0} {g : _} (o : Order T) (strict : IsStrict o) (most : ℕ) (b b' : Ladder T g) (same : places_in most b' ≡ places_in most b) where
  -- a call that did what it says is sound after every run
  sound_call : (e : Event T) → Did o (places_in most b) e (items_in b) (items_in b') → IsSoundCall o most e b b'
  sound_call e did =
      let at : (places : ℕ) (h : List (Event T)) → Leads o most places h b → Did o places e (items_in b) (items_in b') = λ places h led. subst (λ n. Did o n e (items_in b) (items_in b')) led.places_are did in
      record {
        run = λ places h led. record { places_are = same ∙ led.places_are; run = after h e _ _ led.run (at places h led) };
        sound = λ places h led. run_sound o strict places _ _ (after h e _ _ led.run (at places h led));
      }

  pub sound_adding : (x : T) (a : Result ℕ LadderFault) → a ≡ adding_answer o (places_in most b) x (items_in b) → items_in b' ≡ after_adding o x a (items_in b) → IsSoundCall o most (adding x a) b b'
  sound_adding x a answered left = sound_call (adding x a) (answered, left)

  pub sound_withdrawing : (n : ℕ) (a : Result T LadderFault) → a ≡ withdrawing_answer o n (items_in b) → items_in b' ≡ after_withdrawing o n a (items_in b) → IsSoundCall o most (withdrawing n a) b b'
  sound_withdrawing n a answered left = sound_call (withdrawing n a) (answered, left)

-- no call leads to where nothing stands
pub none_yet : {T : Type 0} {o : Order T} {places : ℕ} {l : List T} → l ≡ [] → Run o places [] l
none_yet {T} {o} {places} e = subst (Run o places []) (sym e) begun
