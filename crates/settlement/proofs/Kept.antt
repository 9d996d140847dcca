-- Each call keeps that the book holds what the run says.
use Rattle.std.proofs.Common.{◌≡◌, ℕ, zero, suc, ◌<◌, Bool, true, false, ◌&&◌, eqb, ◌≢◌, List, [], ◌∷◌, length, get_or, set, replicate, ℤ, ◌+ℤ◌, Some, None, Ok, Err, is_some, Option, sym, refl, ap, ◌∙◌, subst, ⊎_elim, arith, get_or-set_other, get_or-set_same}
use borrow.Author.Differences.{ints}
use Rattle.std.specs.Option.{option_map, option_map_or, option_or}
use Rattle.std.specs.Prelude.{if◌then◌else◌}
use Rattle.std.proofs.lemmas.Bool.{eqb-true, eq-eqb, ne_eqb, cases_Bool, cases_eq, and_parts, and_from}
use Rattle.metering.specs.Imbalances.{Values, balanced, imbalance, kwh_of, metering_fault}
use Rattle.metering.specs.declared.imbalance.Imbalance.{Imbalance}
use Rattle.pricing.specs.declared.quote.Quote.{Quote}
use Rattle.source.specs.Meanings.{Meaning}
use Rattle.units.proofs.Rounds.{nearest_rounded}
use Rattle.units.specs.declared.euros.Amount.{Amount}
use Rattle.settlement.specs.Answers.{IsLawfulRulebook, IsPricingAnswer, Rules, closing_answer, metering_call_fault, party_fault, period_fault}
use Rattle.settlement.specs.Books.{IsFresh, imbalance_at, imbalances_in, imbalances_of, in_book, paid_to, payments_in, quarter_at}
use Rattle.settlement.specs.Changes.{Filed, Metered, Paid, SameCounts}
use Rattle.settlement.specs.Events.{Answered, Changes, Did, Event, closing, metering, pricing, settling}
use Rattle.settlement.specs.Known.{imbalance_amount, nothing, payable}
use Rattle.settlement.specs.Promises.{AllAnswered, AllFairlyPaid, FairlyPaid, IsSoundCall, RightPrice, Sound, WithinBounds}
use Rattle.settlement.specs.Runs.{Filing, Run, after, after_run, begun, imbalance_after, last_pricing, payments_since, quarter_after, stands_as, was_closed}
use Rattle.settlement.specs.Standings.{closed_as, is_closed, quote_in}
use Rattle.settlement.specs.declared.book.Book.{Book}
use Rattle.settlement.specs.declared.book.TheConstants.{MOST_PERIODS, MOST_PARTIES}
use Rattle.settlement.specs.declared.fault.BookFault.TheVariants.{QuarterClosed, Metering}
use Rattle.settlement.specs.declared.party.Party.{Party}
use Rattle.settlement.specs.declared.quarter.Quarter.{Quarter}
use Rattle.settlement.specs.declared.quarter.Quarter.TheVariants.{Blank, Priced, Closed}
use Rattle.settlement.proofs.Checks.{Accepted, Shut, all_passed, closing_accepted, or_none, party_known, period_known, pricing_accepted}
use Rattle.settlement.proofs.Filings.{filed, right, within_bounds}
use Rattle.settlement.proofs.Only.{only}
use Rattle.settlement.proofs.Readings.{amount_placed, imbalance_of, paid_of, quarter_of, quarter_placed, row_placed, imbalance_placed}
use Rattle.settlement.proofs.Sums.{same_amount, same_payable}

abbrev Bounds : Filing → Type 0
Bounds f = (q : Quote) → quote_in f.quarter ≡ Some q → WithinBounds q.direction f.source q.price.cents

abbrev Right : Filing → Type 0
Right f = RightPrice f f.quarter

-- what a run leaves in the book
pub record Reached (h : List Event) (b : Book) : Type 0 where
  pub standings : (p : ℕ) → quarter_at b p ≡ quarter_after h p
  pub closings : (p : ℕ) → is_closed (quarter_at b p) ≡ was_closed h p
  pub prices : (p : ℕ) (f : Filing) → last_pricing h p ≡ Some f → Right f
  pub bounds : (p : ℕ) (f : Filing) → last_pricing h p ≡ Some f → Bounds f
  pub imbalances : (p q : ℕ) → (imbalance_at b p q).kwh ≡ imbalance_after h p q
  pub payments : (q : ℕ) → (paid_to b q).cents ≡ payments_since h q

-- A PLACE THAT IS WRITTEN, AND THE OTHERS

-- the element at j of a list that was written at i
pub written : {X : Type 0} (xs : List X) (i j : ℕ) (x d : X) (P : X → Type 0) → i < length xs → (i ≡ j → P x) → ((i ≡ j → ⊥) → P (get_or xs j d)) → P (get_or (set xs i x) j d)
written xs i j x d P l new old =
    ⊎_elim
    (λ (s : i ≡ j). subst (λ (k : ℕ). P (get_or (set xs i x) k d)) s (subst P (sym (get_or-set_same xs i x d l)) (new s)))
    (λ (n : i ≡ j → ⊥). let ne : j ≢ i = λ w. n (sym w) in subst P (sym (get_or-set_other xs i j x d ne)) (old n))
    (cases_eq i j)

-- two places that differ, by the test
apart : (p q p' q' : ℕ) → (p ≡ p' → q ≡ q' → ⊥) → (eqb p p' && eqb q q') ≡ false
apart p q p' q' d =
    ⊎_elim
    (λ (e : (eqb p p' && eqb q q') ≡ true). let s = and_parts (eqb p p') (eqb q q') e in absurd (d (eqb-true p p' s.0) (eqb-true q q' s.1)))
    (λ (e : (eqb p p' && eqb q q') ≡ false). e)
    (cases_Bool (eqb p p' && eqb q q'))

-- PRICING

quote_same : (p q : Quote) (x : Quarter) → x ≡ Priced p → quote_in x ≡ Some q → p ≡ q
quote_same p q x e f = let g : quote_in x ≡ Some p = ap quote_in e in cc

-- the last accepted pricing is the new one, or the one before
last_is : (t : Bool) (o : Option Filing) (f g : Filing) (P : Filing → Type 0) → option_or (if t then Some f else None) o ≡ Some g → P f → (o ≡ Some g → P g) → P g
last_is true o f g P e new old = let same : f ≡ g = cc in subst P same new
last_is false o f g P e new old = old e

priced_run : (h : List Event) (b b' : Book) (p : ℕ) (m : Meaning) (r : Rules) (x : Quarter) → IsLawfulRulebook r → Accepted (in_book b) p m r x → Filed b b' p x → Reached h b → Reached (pricing p m r (Ok x) ∷ h) b'
priced_run h b b' p m r x laws a f k =
    let qs : List Quarter = b.quarters in
    let within : p < length qs = quarter_placed b p a.within in
    let unclosed : was_closed h p ≡ false = sym (k.closings p) ∙ a.unclosed in
    let bounded : Bounds (filed m r x) = λ q e. let same : a.quote ≡ q = quote_same _ _ x a.is e in subst (λ (w : Quote). WithinBounds w.direction m w.price.cents) same (within_bounds m r a.quote laws a.quoted) in
    record {
      standings = λ p'. rw f.quarters (written qs p p' x Blank (λ y. y ≡ quarter_after (pricing p m r (Ok x) ∷ h) p') within
          (λ s. rw (← s, eq-eqb p p refl, unclosed) refl)
          (λ n. rw (ne_eqb p p' n) (k.standings p')));
      closings = λ p'. rw f.quarters (written qs p p' x Blank (λ y. is_closed y ≡ was_closed h p') within
          (λ s. rw (← s, a.is, unclosed) refl)
          (λ n. k.closings p'));
      prices = λ p' g e. last_is (eqb p p') _ (filed m r x) g Right e (right m r x a.quote laws a.is a.quoted) (k.prices p' g);
      bounds = λ p' g e. last_is (eqb p p') _ (filed m r x) g Bounds e bounded (k.bounds p' g);
      imbalances = λ p' q'. rw f.parties (k.imbalances p' q');
      payments = λ q'. rw f.parties (k.payments q');
    }

-- CLOSING

never_priced : (x : Quarter) (q : Quote) → Priced q ≡ closed_as x → ⊥
never_priced Blank q e = let z : ◌≡◌ {A = ℕ} 0 1 = cc in omega arith
never_priced (Priced y) q e = let z : ◌≡◌ {A = ℕ} 0 1 = cc in omega arith
never_priced (Closed y) q e = let z : ◌≡◌ {A = ℕ} 0 1 = cc in omega arith

closed_as_lem : (o : Option Filing) (c : Bool) (q : Quote) → Priced q ≡ stands_as o c → Closed q ≡ stands_as o true
closed_as_lem None c q e = let z : ◌≡◌ {A = ℕ} 0 1 = cc in absurd (omega arith)
closed_as_lem (Some f) false q e = ap closed_as e
closed_as_lem (Some f) true q e = absurd (never_priced f.quarter q e)

closed_run : (h : List Event) (b b' : Book) (p : ℕ) (x : Quarter) → Shut (in_book b) p x → Filed b b' p x → Reached h b → Reached (closing p (Ok x) ∷ h) b'
closed_run h b b' p x a f k =
    let qs : List Quarter = b.quarters in
    let within : p < length qs = quarter_placed b p a.within in
    record {
      standings = λ p'. rw f.quarters (written qs p p' x Blank (λ y. y ≡ quarter_after (closing p (Ok x) ∷ h) p') within
          (λ s. subst (λ (w : ℕ). x ≡ quarter_after (closing p (Ok x) ∷ h) w) s
          (rw (eq-eqb p p refl) (a.is ∙ closed_as_lem (last_pricing h p) (was_closed h p) a.quote (sym a.was ∙ k.standings p))))
          (λ n. rw (ne_eqb p p' n) (k.standings p')));
      closings = λ p'. rw f.quarters (written qs p p' x Blank (λ y. is_closed y ≡ was_closed (closing p (Ok x) ∷ h) p') within
          (λ s. rw (← s, eq-eqb p p refl, a.is) refl)
          (λ n. rw (ne_eqb p p' n) (k.closings p')));
      prices = k.prices;
      bounds = k.bounds;
      imbalances = λ p' q'. rw f.parties (k.imbalances p' q');
      payments = λ q'. rw f.parties (k.payments q');
    }

-- METERING

metered_run : (h : List Event) (b b' : Book) (p q : ℕ) (v : Values) (i : Imbalance) → p < b.period_count → q < b.party_count → i.kwh ≡ imbalance v → Metered b b' p q i → Reached h b → Reached (metering p q v (Ok i) ∷ h) b'
metered_run h b b' p q v i lp lq e f k =
    let rows : q < length (imbalances_in b) = row_placed b q lq in
    let places : p < length (imbalances_of b q) = imbalance_placed b p q lp lq in
    record {
      standings = λ p'. rw f.quarters (k.standings p');
      closings = λ p'. rw f.quarters (k.closings p');
      prices = k.prices;
      bounds = k.bounds;
      imbalances = λ p' q'.
          let before : (imbalance_at b p' q').kwh ≡ imbalance_after h p' q' = k.imbalances p' q' in
          rw f.imbalances (written (imbalances_in b) q q' (set (imbalances_of b q) p i) [] (λ row. (get_or row p' balanced).kwh ≡ imbalance_after (metering p q v (Ok i) ∷ h) p' q') rows
          (λ s. written (imbalances_of b q) p p' i balanced (λ y. y.kwh ≡ imbalance_after (metering p q v (Ok i) ∷ h) p' q') places
          (λ t. rw (and_from _ _ (eq-eqb p p' t) (eq-eqb q q' s)) e)
          (λ d. rw (apart p q p' q' (λ x y. d x)) (subst (λ (w : ℕ). (imbalance_at b p' w).kwh ≡ imbalance_after h p' q') (sym s) before)))
          (λ d. rw (apart p q p' q' (λ x y. d y)) before));
      payments = λ q'. rw f.paid (k.payments q');
    }

-- SETTLING

settled_run : (h : List Event) (b b' : Book) (q : ℕ) (x : Amount) → q < b.party_count → Paid b b' q (record { cents = (paid_to b q).cents +ℤ x.cents }) → Reached h b → Reached (settling q (Ok x) ∷ h) b'
settled_run h b b' q x lq f k =
    let within : q < length (payments_in b) = amount_placed b q lq in
    record {
      standings = λ p'. rw f.quarters (k.standings p');
      closings = λ p'. rw f.quarters (k.closings p');
      prices = k.prices;
      bounds = k.bounds;
      imbalances = λ p' q'. rw f.imbalances (k.imbalances p' q');
      payments = λ q'. rw f.paid (written (payments_in b) q q' (record { cents = (paid_to b q).cents +ℤ x.cents }) nothing (λ y. y.cents ≡ payments_since (settling q (Ok x) ∷ h) q') within
          (λ s. subst (λ (w : ℕ). (paid_to b q).cents +ℤ x.cents ≡ payments_since (settling q (Ok x) ∷ h) w) s
          (rw (eq-eqb q q refl) (omega (arith, ints, k.payments q))))
          (λ d. rw (ne_eqb q q' d) (k.payments q')));
    }

-- STARTING

pub all_same : {X : Type 0} (n p : ℕ) (x : X) → get_or (replicate n x) p x ≡ x
all_same zero p x = refl
all_same (suc n) zero x = refl
all_same (suc n) (suc p) x = all_same n p x

pub none_metered : (m n p q : ℕ) → get_or (get_or (replicate m (replicate n balanced)) q []) p balanced ≡ balanced
none_metered zero n p q = refl
none_metered (suc m) n p zero = all_same n p balanced
none_metered (suc m) n p (suc q) = none_metered m n p q

pub fresh_run : (b : Book) → IsFresh b → Reached [] b
fresh_run b f =
    let blank : (p : ℕ) → quarter_at b p ≡ Blank = λ p. rw f.blank (all_same MOST_PERIODS p Blank) in
    record {
      standings = blank;
      closings = λ p. rw (blank p) refl;
      prices = λ p g e. let z : ◌≡◌ {A = ℕ} 0 1 = cc in absurd (omega arith);
      bounds = λ p g e. let z : ◌≡◌ {A = ℕ} 0 1 = cc in absurd (omega arith);
      imbalances = λ p q. rw f.unmetered (ap (λ (i : Imbalance). i.kwh) (none_metered MOST_PARTIES MOST_PERIODS p q));
      payments = λ q. rw f.unpaid (ap (λ (x : Amount). x.cents) (all_same MOST_PARTIES q nothing));
    }

-- EVERY CALL

-- a call that was refused: its event adds nothing to what the run says, and the book is the same
unchanged : (e : Event) (h : List Event) (b b' : Book) → b' ≡ b → Reached (e ∷ h) b → Reached (e ∷ h) b'
unchanged e h b b' s k = subst (λ (w : Book). Reached (e ∷ h) w) (sym s) k

step : (h : List Event) (e : Event) (b b' : Book) → Did e b b' → Reached h b → Reached (e ∷ h) b'
step h (pricing p m r (Ok x)) b b' d k = priced_run h b b' p m r x d.lawful (pricing_accepted (in_book b) p m r x d.answered) d.changes k
step h (pricing p m r (Err f)) b b' d k = unchanged _ h b b' d.changes (record { standings = k.standings; closings = k.closings; prices = k.prices; bounds = k.bounds; imbalances = k.imbalances; payments = k.payments })
step h (metering p q v (Ok i)) b b' d k =
    let s = all_passed (metering_call_fault (in_book b) p q v) (imbalance v) i.kwh d.answered in
    let n = or_none (period_fault (in_book b) p) _ s.0 in
    let o = or_none (party_fault (in_book b) q) _ n.1 in
    metered_run h b b' p q v i (period_known (in_book b) p n.0) (party_known (in_book b) q o.0) s.1 d.changes k
step h (metering p q v (Err f)) b b' d k = unchanged _ h b b' d.changes (record { standings = k.standings; closings = k.closings; prices = k.prices; bounds = k.bounds; imbalances = k.imbalances; payments = k.payments })
step h (closing p (Ok x)) b b' d k = closed_run h b b' p x (closing_accepted (in_book b) p x d.answered) d.changes k
step h (closing p (Err f)) b b' d k = unchanged _ h b b' d.changes (record { standings = k.standings; closings = k.closings; prices = k.prices; bounds = k.bounds; imbalances = k.imbalances; payments = k.payments })
step h (settling q (Ok x)) b b' d k =
    let s = all_passed (party_fault (in_book b) q) (payable (in_book b) q) x.cents d.answered in
    settled_run h b b' q x (party_known (in_book b) q s.0) d.changes k
step h (settling q (Err f)) b b' d k = unchanged _ h b b' d.changes (record { standings = k.standings; closings = k.closings; prices = k.prices; bounds = k.bounds; imbalances = k.imbalances; payments = k.payments })

-- THE ANSWER, BY THE RUN

payable_after : (h : List Event) (b : Book) (q : ℕ) → Reached h b → payable (in_book b) q ≡ payable (after_run b.period_count b.party_count h) q
payable_after h b q k =
    let known = after_run b.period_count b.party_count h in
    same_payable (in_book b) known q (same_amount (in_book b) known q refl (λ p l. k.imbalances p q) (λ p l. k.standings p)) (k.payments q)

answered_after : (h : List Event) (e : Event) (b : Book) → Reached h b → Answered (in_book b) e → Answered (after_run b.period_count b.party_count h) e
answered_after h (pricing p m r a) b k d = subst (λ (x : Quarter). IsPricingAnswer (option_or (period_fault (in_book b) p) (if is_closed x then Some (QuarterClosed p) else None)) p m r a) (k.standings p) d
answered_after h (metering p q v a) b k d = subst (λ (x : Quarter). kwh_of a ≡ option_map_or Err (option_or (period_fault (in_book b) p) (option_or (party_fault (in_book b) q) (option_or (if is_closed x then Some (QuarterClosed p) else None) (option_map Metering (metering_fault v))))) (Ok (imbalance v))) (k.standings p) d
answered_after h (closing p a) b k d = subst (λ (x : Quarter). a ≡ option_map_or Err (period_fault (in_book b) p) (closing_answer p x)) (k.standings p) d
answered_after h (settling q a) b k d = d ∙ ap (λ z. option_map_or Err (party_fault (in_book b) q) (Ok z)) (payable_after h b q k)

fair : (n m : ℕ) (h : List Event) (e : Event) → Answered (after_run n m h) e → FairlyPaid n m (e ∷ h)
fair n m h (pricing p s r a) d = tt
fair n m h (metering p q v a) d = tt
fair n m h (closing p a) d = tt
fair n m h (settling q (Err f)) d = tt
fair n m h (settling q (Ok x)) d =
    let s = all_passed (party_fault (after_run n m h) q) (payable (after_run n m h) q) x.cents d in
    let t : ℤ = imbalance_amount (after_run n m h) q in
    rw (eq-eqb q q refl) (record { divides = omega arith; close = omega (arith, ints, s.1, (nearest_rounded t 1000 (omega arith)).close) })

all_fair : (n m : ℕ) (h : List Event) → AllAnswered n m h → AllFairlyPaid n m h
all_fair n m [] a = tt
all_fair n m (e ∷ h) a = (fair n m h e a.0, all_fair n m h a.1)

-- THE STANDING PRICE, BY THE LAST ACCEPTED PRICING

closed_quote : (x : Quarter) → quote_in (closed_as x) ≡ quote_in x
closed_quote Blank = refl
closed_quote (Priced q) = refl
closed_quote (Closed q) = refl

-- closing leaves the quote that was filed
stands_quote : (f : Filing) (c : Bool) → quote_in (stands_as (Some f) c) ≡ quote_in f.quarter
stands_quote f false = refl
stands_quote f true = closed_quote f.quarter

-- the quote that stands is that of the last accepted pricing
quote_of_last : (h : List Event) (b : Book) (p : ℕ) (f : Filing) → Reached h b → last_pricing h p ≡ Some f → quote_in (quarter_at b p) ≡ quote_in f.quarter
quote_of_last h b p f k e = ap quote_in (k.standings p) ∙ ap (λ (o : Option Filing). quote_in (stands_as o (was_closed h p))) e ∙ stands_quote f (was_closed h p)

right_price : (h : List Event) (b : Book) (p : ℕ) (f : Filing) → Reached h b → last_pricing h p ≡ Some f → RightPrice f (quarter_at b p)
right_price h b p f k e =
    let r = k.prices p f e in
    record { quote = r.quote; filed = quote_of_last h b p f k e ∙ r.filed; code = r.code; figures = r.figures; gives = r.gives; stands = r.stands }

priced_where : (o : Option Filing) (c : Bool) → ((f : Filing) → o ≡ Some f → Right f) → is_some (quote_in (stands_as o c)) ≡ is_some o
priced_where None c r = refl
priced_where (Some f) c r = ap is_some (stands_quote f c ∙ (r f refl).filed)

-- a price stands exactly where a pricing was accepted
has_price : (h : List Event) (b : Book) (p : ℕ) → Reached h b → is_some (quote_in (quarter_at b p)) ≡ is_some (last_pricing h p)
has_price h b p k = ap (λ (x : Quarter). is_some (quote_in x)) (k.standings p) ∙ priced_where (last_pricing h p) (was_closed h p) (k.prices p)

-- THE THEOREM

-- by induction on the run
pub kept : {h : List Event} {b : Book} → Run h b → Reached h b
kept (begun b f) = fresh_run b f
kept (after h e b b' r d) = step h e b b' d (kept r)

not_moved : (b b' : Book) → b' ≡ b → SameCounts b b'
not_moved b b' e = (ap (λ (w : Book). w.period_count) e, ap (λ (w : Book). w.party_count) e)

same_counts : (e : Event) (b b' : Book) → Changes e b b' → SameCounts b b'
same_counts (pricing p m r (Ok x)) b b' c = c.counts
same_counts (pricing p m r (Err f)) b b' c = not_moved b b' c
same_counts (metering p q v (Ok i)) b b' c = c.counts
same_counts (metering p q v (Err f)) b b' c = not_moved b b' c
same_counts (closing p (Ok x)) b b' c = c.counts
same_counts (closing p (Err f)) b b' c = not_moved b b' c
same_counts (settling q (Ok x)) b b' c = c.counts
same_counts (settling q (Err f)) b b' c = not_moved b b' c

at_counts : {n n' m m' : ℕ} (P : ℕ → ℕ → Type 0) → (n' ≡ n) × (m' ≡ m) → P n m → P n' m'
at_counts {n} {n'} {m} {m'} P s x = subst (λ (w : ℕ). P n' w) (sym s.1) (subst (λ (w : ℕ). P w m) (sym s.0) x)

-- each call of the run was answered by those before it
all_answered : {h : List Event} {b : Book} → Run h b → AllAnswered b.period_count b.party_count h
all_answered (begun b f) = tt
all_answered (after h e b b' r d) =
    at_counts (λ x y. AllAnswered x y (e ∷ h)) (same_counts e b b' d.changes) (answered_after h e b (kept r) d.answered, all_answered r)

sound_in : {h : List Event} {b : Book} → Run h b → Sound h b
sound_in {h} {b} r =
    let s = kept r in
    let a = all_answered r in
    record {
      standings = s.standings;
      closings = s.closings;
      price_stands = λ p. has_price h b p s;
      prices = λ p g i. right_price h b p g s i;
      bounds = λ p g q i j. s.bounds p g i q (sym (quote_of_last h b p g s i) ∙ j);
      imbalances = s.imbalances;
      payments = s.payments;
      answers = a;
      fair = all_fair b.period_count b.party_count h a;
    }

pub sound_call : (e : Event) (b b' : Book) → Did e b b' → IsSoundCall e b b'
sound_call e b b' d = record { did = d; only = only (in_book b) e d.answered; run = λ h r. after h e b b' r d; sound = λ h r. sound_in (after h e b b' r d) }

pub fresh_sound : (b : Book) → IsFresh b → Sound [] b
fresh_sound b f = sound_in (begun b f)

-- AN ANSWER THAT THE BOOK GIVES, BY THE RUN

-- what is read at a place of the book, whatever would stand past the last
pub quarter_said : (h : List Event) (b : Book) (p : ℕ) (x : Quarter) → Run h b → p < b.period_count → get_or b.quarters p x ≡ quarter_after h p
quarter_said h b p x r l = quarter_of b p x l ∙ (kept r).standings p

pub imbalance_said : (h : List Event) (b : Book) (p q : ℕ) (x : Party) (i : Imbalance) → Run h b → p < b.period_count → q < b.party_count → (get_or (get_or b.parties q x).imbalances p i).kwh ≡ imbalance_after h p q
imbalance_said h b p q x i r l m = ap (λ (y : Imbalance). y.kwh) (imbalance_of b p q x i l m) ∙ (kept r).imbalances p q

pub payments_said : (h : List Event) (b : Book) (q : ℕ) (x : Party) → Run h b → q < b.party_count → (get_or b.parties q x).paid.cents ≡ payments_since h q
payments_said h b q x r l = ap (λ (y : Amount). y.cents) (paid_of b q x l) ∙ (kept r).payments q
