-- The day as a whole, from what each of its steps leaves.
use Rattle.std.proofs.Common.{◌≡◌, ℕ, suc, ◌-◌, ◌<◌, Bool, true, false, cond, ◌&&◌, eqb, ltb, ⊎_elim, List, length, get_or, replicate, map, ℤ, pos, Result, sym, refl, ap, ◌∙◌, subst, arith}
use Rattle.std.specs.List.{count_by}
use Rattle.std.proofs.lemmas.Bool.{and_parts, both_ways, and_from, cases_Bool, eq-eqb, eqb-true, ltb-true}
use Rattle.std.proofs.lemmas.List.{get_or-take, length-take-le}
use Rattle.std.proofs.lemmas.List.FromFn.{fill_by_all, get_or-map-range_with_len, length-map-range_with_len}
use Rattle.metering.specs.Imbalances.{balanced, imbalance}
use Rattle.metering.specs.declared.imbalance.Imbalance.{Imbalance}
use Rattle.units.specs.declared.euros.Amount.{Amount}
use Rattle.settlement.specs.Books.{imbalance_at, imbalances_in, in_book, payments_in}
use Rattle.settlement.specs.Changes.{SameCounts}
use Rattle.settlement.specs.Events.{metering}
use Rattle.settlement.specs.Known.{Known, nothing, payable}
use Rattle.settlement.specs.Promises.{IsSoundCall}
use Rattle.settlement.specs.Standings.{is_closed}
use Rattle.settlement.specs.Starting.{Begins}
use Rattle.settlement.specs.declared.book.Book.{Book}
use Rattle.settlement.specs.declared.book.TheConstants.{MOST_PERIODS, MOST_PARTIES}
use Rattle.settlement.specs.declared.fault.BookFault.{BookFault}
use Rattle.settlement.specs.declared.quarter.Quarter.{Quarter}
use Rattle.settlement.specs.declared.quarter.Quarter.TheVariants.{Blank, Priced, Closed}
use Rattle.settlement.proofs.Kept.{all_same, none_metered}
use Rattle.settlement.proofs.Sums.{same_amount, same_payable}
use Rattle.exports.specs.BenchDays.{Buffers, Settled, has_price, QuarterOf, QuartersOf, meter_values, metered_all, metered_late, payments_over, settled_first, sheet_at, unmetered}
use Rattle.exports.specs.steps.DayBooks.{IsSameKnown, quarters_in}
use Rattle.exports.proofs.Metering.{Took, took}

-- WHAT IS KNOWN ALIKE

along : (k l m : Known) → IsSameKnown k l → IsSameKnown l m → IsSameKnown k m
along k l m a b = record {
  periods = a.periods ∙ b.periods;
  parties = a.parties ∙ b.parties;
  quarter = λ p x. a.quarter p (omega (arith, b.periods)) ∙ b.quarter p x;
  imbalance = λ p q x y. a.imbalance p q (omega (arith, b.periods)) (omega (arith, b.parties)) ∙ b.imbalance p q x y;
  paid = λ q y. a.paid q (omega (arith, b.parties)) ∙ b.paid q y;
}

same_due : (k l : Known) (q : ℕ) → IsSameKnown k l → q < l.parties → payable k q ≡ payable l q
same_due k l q a y = same_payable k l q (same_amount k l q a.periods (λ p x. a.imbalance p q x y) a.quarter) (a.paid q y)

-- where one settlement pays into a buffer, so does another of which the same is known
place : Known → List ℤ → ℕ → ℤ
place k xs q = cond (ltb q k.parties) (payable k q) (get_or xs q (pos 0))

same_place : (k l : Known) (xs : List ℤ) (q : ℕ) → IsSameKnown k l → place k xs q ≡ place l xs q
unfolding place
same_place k l xs q a =
    ap (λ n. cond (ltb q n) (payable k q) (get_or xs q (pos 0))) a.parties
    ∙ ⊎_elim
    (λ (e : ltb q l.parties ≡ true). rw e (same_due k l q a (ltb-true q l.parties e)))
    (λ (e : ltb q l.parties ≡ false). rw e refl)
    (cases_Bool (ltb q l.parties))

same_payments : (k l : Known) (xs : List ℤ) → IsSameKnown k l → payments_over k xs ≡ payments_over l xs
unfolding place
same_payments k l xs a =
    fill_by_all (place l xs) (payments_over k xs) (length xs) (pos 0) (length-map-range_with_len (place k xs) 0 (length xs))
    (λ q h. get_or-map-range_with_len (place k xs) 0 (length xs) q q (pos 0) h (omega arith) ∙ same_place k l xs q a)

metered_alike : (k l : Known) → IsSameKnown k l → IsSameKnown (metered_all k) (metered_all l)
metered_alike k l a = record { periods = a.periods; parties = a.parties; quarter = a.quarter; imbalance = λ p q x y. refl; paid = a.paid }

late_alike : (k l : Known) → IsSameKnown k l → IsSameKnown (metered_late k) (metered_late l)
late_alike k l a = record {
  periods = a.periods;
  parties = a.parties;
  quarter = a.quarter;
  imbalance = λ p q x y.
      ap (λ n. cond ((eqb (suc p) n) && (eqb q 0)) (imbalance (meter_values p q (pos 65))) (k.imbalance p q)) a.periods
      ∙ ap (λ z. cond ((eqb (suc p) l.periods) && (eqb q 0)) (imbalance (meter_values p q (pos 65))) z) (a.imbalance p q x y);
  paid = a.paid;
}

settled_alike : (n : ℕ) (k l : Known) → IsSameKnown k l → IsSameKnown (settled_first n k) (settled_first n l)
settled_alike n k l a = record {
  periods = a.periods;
  parties = a.parties;
  quarter = a.quarter;
  imbalance = a.imbalance;
  paid = λ q y. let s = same_due k l q a y in let p = a.paid q y in cc;
}

-- THE STEPS

-- a book in which the quarters alone were changed since the start
priced_only : (n m : ℕ) (b b' : Book) → Begins n m b → b'.parties ≡ b.parties → SameCounts b b' → IsSameKnown (in_book b') (unmetered m (quarters_in b'))
priced_only n m b b' g e c =
    let long : length (quarters_in b') ≡ b'.period_count = length-take-le b'.period_count b'.quarters (omega (arith, b'.counts.1, b'.places.0)) in
    let rows : imbalances_in b' ≡ replicate MOST_PARTIES (replicate MOST_PERIODS balanced) = ap (λ ps. map (λ party. party.imbalances) ps) e ∙ g.fresh.unmetered in
    let amounts : payments_in b' ≡ replicate MOST_PARTIES nothing = ap (λ ps. map (λ party. party.paid) ps) e ∙ g.fresh.unpaid in
    record {
      periods = sym long;
      parties = c.1 ∙ g.parties;
      quarter = λ p x. sym (get_or-take b'.period_count b'.quarters p Blank (omega (arith, long)));
      imbalance = λ p q x y. rw rows (ap (λ (i : Imbalance). i.kwh) (none_metered MOST_PARTIES MOST_PERIODS p q));
      paid = λ q y. rw amounts (ap (λ (x : Amount). x.cents) (all_same MOST_PARTIES q nothing));
    }

not_closed : (s : List ℕ) (x : Quarter) → QuarterOf s x → is_closed x ≡ false
not_closed s Blank h = refl
not_closed s (Priced q) h = refl
not_closed s (Closed q) h = absurd h

unclosed : (sheets ends : List ℕ) (quarters : List Quarter) (p : ℕ) → QuartersOf sheets ends quarters → p < length ends → is_closed (get_or quarters p Blank) ≡ false
unclosed sheets ends quarters p o l = not_closed (sheet_at sheets ends p) (get_or quarters p Blank) (o.each p l)

-- the late value of party 0 in the last period
took_late : (n : ℕ) (b b' : Book) → b.period_count ≡ n → Took b b' (n - 1) 0 (imbalance (meter_values (n - 1) 0 (pos 65))) → IsSameKnown (in_book b') (metered_late (in_book b))
took_late n b b' e t =
    let test : ℕ → ℕ → Bool = λ p q. (eqb (suc p) (b.period_count)) && (eqb q 0) in
    record {
      periods = t.counts.0;
      parties = t.counts.1;
      quarter = λ p x. ap (λ qs. get_or qs p Blank) t.quarters;
      imbalance = λ p q x y.
          ⊎_elim
          (λ (h : test p q ≡ true).
          let s = and_parts (eqb (suc p) (b.period_count)) (eqb q 0) h in
          let a : n - 1 ≡ p = omega (arith, e, eqb-true (suc p) (b.period_count) s.0) in
          let z : 0 ≡ q = sym (eqb-true q 0 s.1) in
          rw h (subst (λ w. (imbalance_at b' p w).kwh ≡ imbalance (meter_values p w (pos 65))) z (subst (λ w. (imbalance_at b' w 0).kwh ≡ imbalance (meter_values w 0 (pos 65))) a t.here)))
          (λ (h : test p q ≡ false). rw h (t.others p q (λ a z. both_ways (test p q) h (and_from _ _ (eq-eqb (suc p) (b.period_count) (omega arith)) (eq-eqb q 0 (sym z))))))
          (cases_Bool (test p q));
      paid = λ q y. ap (λ ps. (get_or ps q nothing).cents) t.paid;
    }

-- the books of a day, each after a step, and what the steps leave
pub record Steps (sheets ends : List ℕ) (m : ℕ) (before after : Buffers) (n : ℕ) : Type 0 where
  pub started : Book
  pub quoted : Book
  pub measured : Book
  pub paid : Book
  pub corrected : Book
  pub answer : Result Imbalance BookFault
  pub begins : Begins (length ends) m started
  pub prices : QuartersOf sheets ends (quarters_in quoted)
  pub parties : quoted.parties ≡ started.parties
  pub counts : SameCounts started quoted
  pub many : n ≡ count_by has_price (quarters_in quoted)
  pub all : IsSameKnown (in_book measured) (metered_all (in_book quoted))
  pub first : after.first ≡ payments_over (in_book measured) before.first
  pub settled : IsSameKnown (in_book paid) (settled_first (length before.first) (in_book measured))
  pub late : IsSoundCall (metering (length ends - 1) 0 (meter_values (length ends - 1) 0 (pos 65)) answer) paid corrected
  pub second : after.second ≡ payments_over (in_book corrected) before.second

module _ (sheets ends : List ℕ) (m : ℕ) (before after : Buffers) (n : ℕ) (s : Steps sheets ends m before after n) where
  at_first : IsSameKnown (in_book s.measured) (metered_all (unmetered m (quarters_in s.quoted)))
  at_first = along _ _ _ s.all (metered_alike _ _ (priced_only (length ends) m s.started s.quoted s.begins s.parties s.counts))

  at_last : IsSameKnown (in_book s.corrected) (metered_late (settled_first (length before.first) (metered_all (unmetered m (quarters_in s.quoted)))))
  at_last =
      let known = along _ _ _ s.settled (settled_alike (length before.first) _ _ at_first) in
      let e : s.paid.period_count ≡ length ends = known.periods ∙ s.prices.count in
      let within : length ends - 1 < s.paid.period_count = omega (arith, e, s.paid.counts.0) in
      let last : length ends - 1 < length ends = omega (arith, e, s.paid.counts.0) in
      let open_quarter = ap is_closed (known.quarter (length ends - 1) (omega (arith, s.prices.count))) ∙ unclosed sheets ends (quarters_in s.quoted) (length ends - 1) s.prices last in
      let t = took s.paid s.corrected (length ends - 1) 0 (pos 65) s.answer within s.paid.counts.2 (omega arith) open_quarter s.late in
      along _ _ _ (took_late (length ends) s.paid s.corrected e t) (late_alike _ _ known)

  pub as_settled : Settled sheets ends m before after (record { started = true; refusal = 0; place = 0; priced = n })
  as_settled = record {
    quarters = quarters_in s.quoted;
    prices = s.prices;
    answer = ap (λ k. record { started = true; refusal = 0; place = 0; priced = k }) s.many;
    first = s.first ∙ same_payments _ _ before.first at_first;
    second = s.second ∙ same_payments _ _ before.second at_last;
  }
