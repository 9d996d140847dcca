-- A book is known by its quarters, its parties and its counts, so starting has one answer.
use Rattle.std.proofs.Common.{◌≡◌, ℕ, ◌≤◌, List, [], ◌∷◌, length, map, Some, None, Ok, Err, Option, Result, nat_abs, sym, refl, ap, ◌∙◌, arith}
use mathlib.Core.HLevel.{is_prop→PathP}
use native.Mathlib.Bridge.{le_prop}
use Rattle.settlement.specs.Starting.{Started, count_fault}
use Rattle.settlement.specs.declared.book.Book.{Book}
use Rattle.settlement.specs.declared.book.TheConstants.{MOST_PERIODS, MOST_PARTIES}
use Rattle.settlement.specs.declared.fault.CountFault.{CountFault}
use Rattle.settlement.specs.declared.party.Party.{Party}
use Rattle.settlement.specs.declared.party.TheConstants.{MOST_PAID}

party_same : (p q : Party) → p.imbalances ≡ q.imbalances → p.paid ≡ q.paid → p ≡ q
party_same p q e f = λ i. record {
  imbalances = e i;
  paid = f i;
  places = is_prop→PathP (λ j. MOST_PERIODS ≤ length (e j)) (λ j. le_prop) p.places q.places i;
  payments = is_prop→PathP (λ j. nat_abs (f j).cents ≤ MOST_PAID) (λ j. le_prop) p.payments q.payments i;
}

parties_same : (ps qs : List Party) → map (λ (p : Party). p.imbalances) ps ≡ map (λ (p : Party). p.imbalances) qs → map (λ (p : Party). p.paid) ps ≡ map (λ (p : Party). p.paid) qs → ps ≡ qs
parties_same [] [] e f = refl
parties_same [] (q ∷ qs) e f = let z : ◌≡◌ {A = ℕ} 0 1 = cc in absurd (omega arith)
parties_same (p ∷ ps) [] e f = let z : ◌≡◌ {A = ℕ} 0 1 = cc in absurd (omega arith)
parties_same (p ∷ ps) (q ∷ qs) e f =
    let v : p.imbalances ≡ q.imbalances = cc in
    let a : p.paid ≡ q.paid = cc in
    let vs : map (λ (x : Party). x.imbalances) ps ≡ map (λ (x : Party). x.imbalances) qs = cc in
    let bs : map (λ (x : Party). x.paid) ps ≡ map (λ (x : Party). x.paid) qs = cc in
    let h = party_same p q v a in
    let t = parties_same ps qs vs bs in
    cc

book_same : (b d : Book) → b.quarters ≡ d.quarters → b.parties ≡ d.parties → b.period_count ≡ d.period_count → b.party_count ≡ d.party_count → b ≡ d
book_same b d e f n m = λ i. record {
  quarters = e i;
  parties = f i;
  period_count = n i;
  party_count = m i;
  places = (
    is_prop→PathP (λ j. MOST_PERIODS ≤ length (e j)) (λ j. le_prop) b.places.0 d.places.0 i,
    is_prop→PathP (λ j. MOST_PARTIES ≤ length (f j)) (λ j. le_prop) b.places.1 d.places.1 i,
  );
  counts = (
    is_prop→PathP (λ j. 1 ≤ n j) (λ j. le_prop) b.counts.0 d.counts.0 i,
    is_prop→PathP (λ j. n j ≤ MOST_PERIODS) (λ j. le_prop) b.counts.1 d.counts.1 i,
    is_prop→PathP (λ j. 1 ≤ m j) (λ j. le_prop) b.counts.2 d.counts.2 i,
    is_prop→PathP (λ j. m j ≤ MOST_PARTIES) (λ j. le_prop) b.counts.3 d.counts.3 i,
  );
}

refused_or_not : {P : Type 0} (o : Option CountFault) (f : CountFault) → o ≡ None → o ≡ Some f → P
refused_or_not None f e g = let z : ◌≡◌ {A = ℕ} 0 1 = cc in absurd (omega arith)
refused_or_not (Some x) f e g = let z : ◌≡◌ {A = ℕ} 0 1 = cc in absurd (omega arith)

pub started_once : (n m : ℕ) (a r : Result Book CountFault) → Started n m a → Started n m r → r ≡ a
started_once n m (Ok b) (Ok d) s t =
    ap Ok (book_same d b (t.fresh.blank ∙ sym s.fresh.blank)
    (parties_same d.parties b.parties (t.fresh.unmetered ∙ sym s.fresh.unmetered) (t.fresh.unpaid ∙ sym s.fresh.unpaid))
    (t.periods ∙ sym s.periods) (t.parties ∙ sym s.parties))
started_once n m (Ok b) (Err f) s e = refused_or_not (count_fault n m) f s.counts e
started_once n m (Err f) (Ok d) e t = refused_or_not (count_fault n m) f t.counts e
started_once n m (Err f) (Err g) e s = let w : Some g ≡ Some f = sym s ∙ e in let v : g ≡ f = cc in ap Err v
