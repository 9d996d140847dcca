-- The meter values of the day are taken, and what each metering leaves.
use Rattle.std.proofs.Common.{◌≡◌, ℕ, ◌+◌, ◌*◌, ◌<◌, ◌≤◌, ⊎_elim, false, [], ◌∷◌, length, get_or, set, ℤ, pos, ◌+ℤ◌, ◌-ℤ◌, None, Ok, Err, Result, nat_abs, sym, refl, ap, ◌∙◌, subst, arith}
use borrow.Author.Differences.{ints}
use Rattle.std.proofs.lemmas.Bool.{cases_eq, le-ltb}
use Rattle.std.specs.Option.{option_map_or}
use Rattle.metering.specs.Imbalances.{Values, balanced, imbalance, is_beyond, metering_fault}
use Rattle.metering.specs.declared.meter_values.TheConstants.{MOST_KWH}
use Rattle.metering.specs.declared.imbalance.Imbalance.{Imbalance}
use Rattle.settlement.specs.Answers.{metering_call_fault}
use Rattle.settlement.specs.Books.{imbalance_at, imbalances_in, imbalances_of, in_book, payments_in, quarter_at}
use Rattle.settlement.specs.Changes.{Metered, SameCounts}
use Rattle.settlement.specs.Events.{metering}
use Rattle.settlement.specs.Known.{Known}
use Rattle.settlement.specs.Promises.{IsSoundCall}
use Rattle.settlement.specs.Standings.{is_closed}
use Rattle.settlement.specs.declared.book.Book.{Book}
use Rattle.settlement.specs.declared.book.TheConstants.{MOST_PERIODS, MOST_PARTIES}
use Rattle.settlement.specs.declared.fault.BookFault.{BookFault}
use Rattle.settlement.proofs.Checks.{all_passed, never, party_within, period_within}
use Rattle.settlement.proofs.Readings.{row_placed, imbalance_placed}
use Rattle.exports.specs.BenchDays.{meter_values}
use Rattle.settlement.proofs.Kept.{written}

within : (z : ℤ) → nat_abs z ≤ MOST_KWH → is_beyond z ≡ false
within z l = le-ltb MOST_KWH (nat_abs z) l

pub passed : (p q : ℕ) (late : ℤ) → p < MOST_PERIODS → q < MOST_PARTIES → nat_abs late ≤ 1_000 → metering_fault (meter_values p q late) ≡ None
passed p q late lp lq ll =
    let a = within (pos (13 * p) -ℤ pos 900) (omega (arith, ints)) in
    let b = within (pos (7 * q) -ℤ pos 350) (omega (arith, ints)) in
    let c = within ((pos 0 +ℤ (pos (13 * p) -ℤ pos 900)) +ℤ (pos (7 * q) -ℤ pos 350)) (omega (arith, ints)) in
    let d = within (((pos (11 * p) -ℤ pos (23 * q)) -ℤ pos 1_262) +ℤ late) (omega (arith, ints)) in
    let e = within (pos q -ℤ pos 16) (omega (arith, ints)) in
    simp (a, b, c, d, e)

no_fault : (k : Known) (p q : ℕ) (v : Values) → p < k.periods → q < k.parties → is_closed (k.quarter p) ≡ false → metering_fault v ≡ None → metering_call_fault k p q v ≡ None
no_fault k p q v lp lq c m = simp (period_within k p lp, party_within k q lq, c, m)

-- b' is b, but that the imbalance of the party q in p is of z kWh
pub record Took (b b' : Book) (p q : ℕ) (z : ℤ) : Type 0 where
  pub counts : SameCounts b b'
  pub quarters : b'.quarters ≡ b.quarters
  pub paid : payments_in b' ≡ payments_in b
  pub here : (imbalance_at b' p q).kwh ≡ z
  pub others : (p' q' : ℕ) → (p ≡ p' → q ≡ q' → ⊥) → (imbalance_at b' p' q').kwh ≡ (imbalance_at b p' q').kwh

took_as : (b b' : Book) (p q : ℕ) (i : Imbalance) (z : ℤ) → p < b.period_count → q < b.party_count → i.kwh ≡ z → Metered b b' p q i → Took b b' p q z
took_as b b' p q i z lp lq e f =
    let rows : q < length (imbalances_in b) = row_placed b q lq in
    let places : p < length (imbalances_of b q) = imbalance_placed b p q lp lq in
    record {
      counts = f.counts;
      quarters = f.quarters;
      paid = f.paid;
      here =
          rw f.imbalances (written (imbalances_in b) q q (set (imbalances_of b q) p i) [] (λ row. (get_or row p balanced).kwh ≡ z) rows
          (λ s. written (imbalances_of b q) p p i balanced (λ y. y.kwh ≡ z) places (λ t. e) (λ d. absurd (d refl)))
          (λ d. absurd (d refl)));
      others = λ p' q' d.
          rw f.imbalances (written (imbalances_in b) q q' (set (imbalances_of b q) p i) [] (λ row. (get_or row p' balanced).kwh ≡ (imbalance_at b p' q').kwh) rows
          (λ s. written (imbalances_of b q) p p' i balanced (λ y. y.kwh ≡ (imbalance_at b p' q').kwh) places
          (λ t. absurd (d t s))
          (λ n. ap (λ w. (imbalance_at b p' w).kwh) s))
          (λ n. refl));
    }

answered : (b b' : Book) (p q : ℕ) (v : Values) (a : Result Imbalance BookFault) → p < b.period_count → q < b.party_count → metering_call_fault (in_book b) p q v ≡ None → IsSoundCall (metering p q v a) b b' → Took b b' p q (imbalance v)
answered b b' p q v (Ok i) lp lq n w = took_as b b' p q i (imbalance v) lp lq (all_passed (metering_call_fault (in_book b) p q v) (imbalance v) i.kwh w.did.answered).1 w.did.changes
answered b b' p q v (Err f) lp lq n w =
    let e : Err f ≡ option_map_or Err (metering_call_fault (in_book b) p q v) (Ok (imbalance v)) = w.did.answered in
    never (imbalance v) f (sym (e ∙ ap (λ o. option_map_or Err o (Ok (imbalance v))) n))

-- the values of the day are taken where the book has the period and the party, and the quarter is not closed
pub took : (b b' : Book) (p q : ℕ) (late : ℤ) (a : Result Imbalance BookFault) → p < b.period_count → q < b.party_count → nat_abs late ≤ 1_000 → is_closed (quarter_at b p) ≡ false → IsSoundCall (metering p q (meter_values p q late) a) b b' → Took b b' p q (imbalance (meter_values p q late))
took b b' p q late a lp lq ll c w =
    answered b b' p q (meter_values p q late) a lp lq
    (no_fault (in_book b) p q (meter_values p q late) lp lq c (passed p q late (omega (arith, lp, b.counts.1)) (omega (arith, lq, b.counts.3)) ll))
    w

-- the periods before i are metered for all parties, and the period i for those before j
pub record MeteredTo (k b : Book) (i j : ℕ) : Type 0 where
  pub counts : SameCounts k b
  pub quarters : b.quarters ≡ k.quarters
  pub paid : payments_in b ≡ payments_in k
  pub before : (p q : ℕ) → p < i → q < k.party_count → (imbalance_at b p q).kwh ≡ imbalance (meter_values p q (pos 0))
  pub row : (q : ℕ) → q < j → (imbalance_at b i q).kwh ≡ imbalance (meter_values i q (pos 0))

pub one_more : (k b b' : Book) (i j : ℕ) → MeteredTo k b i j → Took b b' i j (imbalance (meter_values i j (pos 0))) → MeteredTo k b' i (j + 1)
one_more k b b' i j m t = record {
  counts = (t.counts.0 ∙ m.counts.0, t.counts.1 ∙ m.counts.1);
  quarters = t.quarters ∙ m.quarters;
  paid = t.paid ∙ m.paid;
  before = λ p q l h. t.others p q (λ e f. omega arith) ∙ m.before p q l h;
  row = λ q l.
      ⊎_elim
      (λ (s : j ≡ q). subst (λ w. (imbalance_at b' i w).kwh ≡ imbalance (meter_values i w (pos 0))) s t.here)
      (λ (n : j ≡ q → ⊥). t.others i q (λ e f. n f) ∙ m.row q (omega arith))
      (cases_eq j q);
}

pub next_period : (k b : Book) (i j : ℕ) → k.party_count ≤ j → MeteredTo k b i j → MeteredTo k b (i + 1) 0
next_period k b i j l m = record {
  counts = m.counts;
  quarters = m.quarters;
  paid = m.paid;
  before = λ p q h g.
      ⊎_elim
      (λ (s : i ≡ p). subst (λ w. (imbalance_at b w q).kwh ≡ imbalance (meter_values w q (pos 0))) s (m.row q (omega arith)))
      (λ (n : i ≡ p → ⊥). m.before p q (omega arith) g)
      (cases_eq i p);
  row = λ q h. absurd (omega arith);
}

-- the values as the machine makes them are those of the day
pub as_told : (p q : ℕ) (late : ℤ) (v : Values) (x y : ℤ) → v.schedules ≡ x ∷ y ∷ [] → x ≡ pos (13 * p) -ℤ pos 900 → y ≡ pos (7 * q) -ℤ pos 350 → v.allocated ≡ ((pos (11 * p) -ℤ pos (23 * q)) -ℤ pos 1_262) +ℤ late → v.adjustment ≡ pos q -ℤ pos 16 → v ≡ meter_values p q late
as_told p q late v x y s a b d e =
    let m = meter_values p q late in
    let same : v.schedules ≡ m.schedules = cc in
    ap (λ w. record { schedules = w; allocated = v.allocated; adjustment = v.adjustment }) same
    ∙ ap (λ z. record { schedules = m.schedules; allocated = z; adjustment = v.adjustment }) d
    ∙ ap (λ z. record { schedules = m.schedules; allocated = m.allocated; adjustment = z }) e
