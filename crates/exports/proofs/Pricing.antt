-- What each pricing leaves in the book.
use Rattle.std.proofs.Common.{◌≡◌, ℕ, zero, suc, ◌+◌, ◌-◌, ◌<◌, ◌≤◌, ◌≢◌, Bool, true, false, cond, leb, ⊎_elim, List, [], ◌∷◌, length, get_or, replicate, Some, None, Ok, Err, Option, Result, is_ok, take, sym, refl, ap, ◌∙◌, subst, arith, add-one, get_or-set_other}
use denote.Bor.{Bor}
use Rattle.std.specs.List.{count_by, slice_range}
use Rattle.std.specs.Option.{unwrap_or}
use Rattle.std.specs.Slice.{IsGetRangeResult}
use Rattle.std.proofs.lemmas.Bool.{cases_eq, le-leb, lt-leb}
use Rattle.std.proofs.lemmas.List.{get_or-take, length-take-le}
use Rattle.std.proofs.lemmas.List.Folds.{sum_by-replicate}
use Rattle.std.proofs.lemmas.List.Sums.{sum_by-cons, sum_by-set}
use Rattle.pricing.specs.Quotes.{Answer, IsQuoteOfSource}
use Rattle.pricing.specs.Rulings.{finnish}
use Rattle.pricing.specs.declared.fault.QuoteFault.{QuoteFault}
use Rattle.pricing.specs.declared.ruling.Net.{Net}
use Rattle.settlement.specs.Answers.{IsPricingAnswer, QuotedAt, Rules, pricing_answer, pricing_fault}
use Rattle.settlement.specs.Books.{IsFresh, in_book, quarter_at}
use Rattle.settlement.specs.Changes.{Filed, SameCounts}
use Rattle.settlement.specs.Events.{pricing}
use Rattle.settlement.specs.Known.{Known}
use Rattle.settlement.specs.Promises.{IsSoundCall}
use Rattle.settlement.specs.declared.book.Book.{Book}
use Rattle.settlement.specs.declared.book.TheConstants.{MOST_PERIODS}
use Rattle.settlement.specs.declared.fault.BookFault.{BookFault}
use Rattle.settlement.specs.declared.quarter.Quarter.{Quarter}
use Rattle.settlement.specs.declared.quarter.Quarter.TheVariants.{Blank, Priced}
use Rattle.settlement.proofs.Kept.{all_same}
use Rattle.settlement.proofs.Checks.{never, period_within, pricing_accepted}
use Rattle.settlement.proofs.Readings.{quarter_placed}
use Rattle.sheet.specs.Sheets.{sheet_meaning}
use Rattle.source.specs.Meanings.{Meaning}
use Rattle.exports.specs.BenchDays.{QuarterOf, QuartersOf, has_price, sheet_at, sheet_start}
use Rattle.exports.specs.steps.DayBooks.{quarters_in}
use Rattle.settlement.proofs.Kept.{written}

none_either : (t : Bool) (x : List ℕ) → x ≡ [] → cond t x [] ≡ []
none_either true x e = e
none_either false x e = refl

-- the part of the sheets that is read is the quarter's sheet
pub part_read : (sheets : List ℕ) (start end : ℕ) (r : Option (Bor (List ℕ))) (d : Bor (List ℕ)) → d.now ≡ [] → IsGetRangeResult sheets start end r → (unwrap_or r d).now ≡ cond (leb end (length sheets)) (slice_range sheets start end) []
part_read sheets start end (Some x) d e h = rw (le-leb end (length sheets) h.0.1) h.0.2
part_read sheets start end None d e h =
    e ∙ sym (⊎_elim
    (λ (l : end < start). let z : end - start ≡ 0 = omega arith in none_either (leb end (length sheets)) (slice_range sheets start end) (rw z refl))
    (λ (l : length sheets < end). rw (lt-leb end (length sheets) l) refl)
    h.0)

abbrev pub by_finnish : Net → Rules
by_finnish n = record { code = 5; net = n; ruling = finnish }

-- b' is b, but that the quarter i, which was blank, is priced from the sheet s, if it has a quote
pub record PricedOne (b b' : Book) (i : ℕ) (s : List ℕ) (x : Result Quarter BookFault) : Type 0 where
  pub parties : b'.parties ≡ b.parties
  pub counts : SameCounts b b'
  pub here : QuarterOf s (quarter_at b' i)
  pub others : (p : ℕ) → (i ≡ p → ⊥) → quarter_at b' p ≡ quarter_at b p
  pub more : count_by has_price b'.quarters ≡ count_by has_price b.quarters + cond (is_ok x) 1 0

no_fault : (k : Known) (i : ℕ) → i < k.periods → k.quarter i ≡ Blank → pricing_fault k i ≡ None
no_fault k i l e = simp (period_within k i l, e)

refused_by : (i : ℕ) (m : Meaning) (r : Rules) (f : BookFault) (a : Answer) → IsQuoteOfSource m r.code r.ruling a → Err f ≡ pricing_answer i a → (g : QuoteFault) × IsQuoteOfSource m r.code r.ruling (Err g)
refused_by i m r f (Ok q) h e = never (Priced q) f (sym e)
refused_by i m r f (Err g) h e = (g, h)

pub priced_one : (b b' : Book) (i : ℕ) (s : List ℕ) (n : Net) (x : Result Quarter BookFault) → i < b.period_count → quarter_at b i ≡ Blank → IsSoundCall (pricing i (sheet_meaning s) (by_finnish n) x) b b' → PricedOne b b' i s x
priced_one b b' i s n (Ok x) l e w =
    let a = pricing_accepted (in_book b) i (sheet_meaning s) (by_finnish n) x w.did.answered in
    let f : Filed b b' i x = w.did.changes in
    let place : i < length b.quarters = quarter_placed b i l in
    let one = sum_by-set (λ y. cond (has_price y) 1 0) b.quarters i x Blank place in
    let counts : Quarter → ℕ = λ y. cond (has_price y) 1 0 in
    let before : counts (quarter_at b i) ≡ 0 = ap counts e in
    let after : counts x ≡ 1 = ap counts a.is in
    record {
      parties = f.parties;
      counts = f.counts;
      here = rw f.quarters (written b.quarters i i x Blank (QuarterOf s) place (λ t. rw a.is a.quoted) (λ d. absurd (d refl)));
      others = λ p d. let ne : p ≢ i = λ t. d (sym t) in rw f.quarters (get_or-set_other b.quarters i p x Blank ne);
      more = rw f.quarters (omega (arith, one, before, after));
    }
priced_one b b' i s n (Err f) l e w =
    let same : b' ≡ b = w.did.changes in
    let g : QuotedAt i (sheet_meaning s) (by_finnish n) (Err f) = subst (λ o. IsPricingAnswer o i (sheet_meaning s) (by_finnish n) (Err f)) (no_fault (in_book b) i l e) w.did.answered in
    rw same (record {
      parties = refl;
      counts = (refl, refl);
      here = rw e (refused_by i (sheet_meaning s) (by_finnish n) f g.quote g.quoted g.answer);
      others = λ p d. refl;
      more = omega arith;
    })

-- the quarters before i are priced from their sheets, and those from i on are blank
pub record PricedTo (sheets ends : List ℕ) (k b : Book) (i n start : ℕ) : Type 0 where
  pub parties : b.parties ≡ k.parties
  pub counts : SameCounts k b
  pub count : b.period_count ≡ length ends
  pub done : (p : ℕ) → p < i → QuarterOf (sheet_at sheets ends p) (quarter_at b p)
  pub blank : (p : ℕ) → i ≤ p → quarter_at b p ≡ Blank
  pub many : n ≡ count_by has_price b.quarters
  pub few : n ≤ i
  pub begins : start ≡ sheet_start ends i

one_at_most : (t : Bool) → cond t 1 0 ≤ 1
one_at_most true = omega arith
one_at_most false = omega arith

pub one_more : (sheets ends : List ℕ) (k b b' : Book) (i n m start end : ℕ) (x : Result Quarter BookFault) → end ≡ get_or ends i 0 → m ≡ n + cond (is_ok x) 1 0 → PricedTo sheets ends k b i n start → PricedOne b b' i (sheet_at sheets ends i) x → PricedTo sheets ends k b' (i + 1) m end
one_more sheets ends k b b' i n m start end x a c t o = record {
  parties = o.parties ∙ t.parties;
  counts = (o.counts.0 ∙ t.counts.0, o.counts.1 ∙ t.counts.1);
  count = o.counts.0 ∙ t.count;
  done = λ p l.
      ⊎_elim
      (λ (e : i ≡ p). subst (λ w. QuarterOf (sheet_at sheets ends w) (quarter_at b' w)) e o.here)
      (λ (d : i ≡ p → ⊥). subst (QuarterOf (sheet_at sheets ends p)) (sym (o.others p d)) (t.done p (omega arith)))
      (cases_eq i p);
  blank = λ p l. o.others p (λ e. omega arith) ∙ t.blank p (omega arith);
  many = omega (arith, o.more, t.many, c);
  few = omega (arith, t.few, c, one_at_most (is_ok x));
  begins = rw add-one a;
}

no_prices : (n : ℕ) → count_by has_price (replicate n Blank) ≡ 0
no_prices n = omega (arith, sum_by-replicate (λ y. cond (has_price y) 1 0) n Blank)

pub none_priced : (sheets ends : List ℕ) (b : Book) → IsFresh b → b.period_count ≡ length ends → PricedTo sheets ends b b 0 0 0
none_priced sheets ends b f e =
    let blank : (p : ℕ) → quarter_at b p ≡ Blank = λ p. rw f.blank (all_same MOST_PERIODS p Blank) in
    record {
      parties = refl;
      counts = (refl, refl);
      count = e;
      done = λ p l. absurd (omega arith);
      blank = λ p l. blank p;
      many = sym (ap (count_by has_price) f.blank ∙ no_prices MOST_PERIODS);
      few = omega arith;
      begins = refl;
    }

-- quarters that are blank have no price, so those past the periods count for nothing
none_among : (xs : List Quarter) → ((p : ℕ) → get_or xs p Blank ≡ Blank) → count_by has_price xs ≡ 0
none_among [] h = refl
none_among (x ∷ xs) h =
    let e : x ≡ Blank = h 0 in
    rw e (none_among xs (λ p. h (suc p)))

count_front : (n : ℕ) (xs : List Quarter) → ((p : ℕ) → n ≤ p → get_or xs p Blank ≡ Blank) → count_by has_price (take n xs) ≡ count_by has_price xs
count_front zero xs h = sym (none_among xs (λ p. h p (omega arith)))
count_front (suc n) [] h = refl
count_front (suc n) (x ∷ xs) h =
    let counts : Quarter → ℕ = λ y. cond (has_price y) 1 0 in
    sum_by-cons counts x (take n xs) ∙ ap (λ m. counts x + m) (count_front n xs (λ p l. h (suc p) (omega arith))) ∙ sym (sum_by-cons counts x xs)

pub all_priced : (sheets ends : List ℕ) (k b : Book) (i n start : ℕ) → length ends ≤ i → i ≤ length ends → PricedTo sheets ends k b i n start → QuartersOf sheets ends (quarters_in b)
all_priced sheets ends k b i n start l g t = record {
  count = length-take-le b.period_count b.quarters (omega (arith, b.counts.1, b.places.0)) ∙ t.count;
  each = λ p h. subst (QuarterOf (sheet_at sheets ends p)) (sym (get_or-take b.period_count b.quarters p Blank (omega (arith, t.count)))) (t.done p (omega arith));
}

pub all_counted : (sheets ends : List ℕ) (k b : Book) (i n start : ℕ) → i ≤ length ends → PricedTo sheets ends k b i n start → n ≡ count_by has_price (quarters_in b)
all_counted sheets ends k b i n start g t = t.many ∙ sym (count_front b.period_count b.quarters (λ p h. t.blank p (omega (arith, t.count))))
