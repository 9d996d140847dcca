-- What each settling leaves in the book and in the buffer.
use Rattle.std.proofs.Common.{◌≡◌, ℕ, ◌+◌, ◌<◌, ◌≤◌, ◌≢◌, cond, ltb, ⊎_elim, List, length, get_or, set, ℤ, pos, ◌+ℤ◌, Ok, Err, sym, refl, ap, ◌∙◌, subst, arith, get_or-set_other}
use Rattle.std.specs.Option.{option_map_or}
use Rattle.std.proofs.lemmas.Bool.{cases_eq, cases_lt, cond_above, cond_below}
use Rattle.std.proofs.lemmas.List.{length-set}
use Rattle.std.proofs.lemmas.List.FromFn.{fill_by_all}
use Rattle.units.specs.declared.euros.Amount.{Amount}
use Rattle.settlement.specs.Answers.{party_fault}
use Rattle.settlement.specs.Books.{imbalances_in, in_book, paid_to, payments_in}
use Rattle.settlement.specs.Changes.{Paid, SameCounts}
use Rattle.settlement.specs.Events.{settling}
use Rattle.settlement.specs.Known.{nothing, payable}
use Rattle.settlement.specs.Promises.{IsSoundCall}
use Rattle.settlement.specs.declared.book.Book.{Book}
use Rattle.settlement.specs.declared.fault.BookFault.{BookFault}
use Rattle.settlement.proofs.Checks.{all_passed, never, party_known, party_within}
use Rattle.settlement.proofs.Readings.{amount_placed}
use Rattle.exports.specs.BenchDays.{payments_over}
use Rattle.settlement.proofs.Kept.{written}

-- the first i parties of the book k are settled, and have their payments in their places
pub record SettledTo (k b : Book) (before after : List ℤ) (i : ℕ) : Type 0 where
  pub counts : SameCounts k b
  pub quarters : b.quarters ≡ k.quarters
  pub imbalances : imbalances_in b ≡ imbalances_in k
  pub paid : (q : ℕ) → q < i → q < k.party_count → (paid_to b q).cents ≡ (paid_to k q).cents +ℤ payable (in_book k) q
  pub unpaid : (q : ℕ) → i ≤ q → paid_to b q ≡ paid_to k q
  pub length : length after ≡ length before
  pub places : (q : ℕ) → q < i → get_or after q (pos 0) ≡ cond (ltb q (k.party_count)) (payable (in_book k) q) (get_or before q (pos 0))
  pub others : (q : ℕ) → i ≤ q → get_or after q (pos 0) ≡ get_or before q (pos 0)

-- what a book owes hangs on its periods, quarters, imbalances and payments
owes_the_same : (k b : Book) (q : ℕ) → b.period_count ≡ k.period_count → b.quarters ≡ k.quarters → imbalances_in b ≡ imbalances_in k → paid_to b q ≡ paid_to k q → payable (in_book b) q ≡ payable (in_book k) q
owes_the_same k b q n e f g = simp (n, e, f, g)

pub accepted : (k b b' : Book) (before after : List ℤ) (i : ℕ) (x : Amount) → i < length before → SettledTo k b before after i → IsSoundCall (settling i (Ok x)) b b' → SettledTo k b' before (set after i x.cents) (i + 1)
accepted k b b' before after i x l s w =
    let f : Paid b b' i (record { cents = (paid_to b i).cents +ℤ x.cents }) = w.did.changes in
    let a = all_passed (party_fault (in_book b) i) (payable (in_book b) i) x.cents w.did.answered in
    let has : i < b.party_count = party_known (in_book b) i a.0 in
    let due : x.cents ≡ payable (in_book k) i = a.1 ∙ owes_the_same k b i s.counts.0 s.quarters s.imbalances (s.unpaid i (omega arith)) in
    let place : i < length (payments_in b) = amount_placed b i has in
    let within : i < length after = omega (arith, s.length) in
    record {
      counts = (f.counts.0 ∙ s.counts.0, f.counts.1 ∙ s.counts.1);
      quarters = f.quarters ∙ s.quarters;
      imbalances = f.imbalances ∙ s.imbalances;
      paid = λ q h m.
          rw f.paid (written (payments_in b) i q (record { cents = (paid_to b i).cents +ℤ x.cents }) nothing (λ y. y.cents ≡ (paid_to k q).cents +ℤ payable (in_book k) q) place
          (λ e. subst (λ n. (paid_to b i).cents +ℤ x.cents ≡ (paid_to k n).cents +ℤ payable (in_book k) n) e (rw (s.unpaid i (omega arith), due) refl))
          (λ n. s.paid q (omega arith) m));
      unpaid = λ q h. (let n : q ≢ i = omega arith in rw f.paid (get_or-set_other (payments_in b) i q _ nothing n)) ∙ s.unpaid q (omega arith);
      length = length-set after i x.cents ∙ s.length;
      places = λ q h.
          written after i q x.cents (pos 0) (λ y. y ≡ cond (ltb q (k.party_count)) (payable (in_book k) q) (get_or before q (pos 0))) within
          (λ e. subst (λ n. x.cents ≡ cond (ltb n (k.party_count)) (payable (in_book k) n) (get_or before n (pos 0))) e
          (due ∙ cond_below i (k.party_count) _ _ (omega (arith, s.counts.1))))
          (λ n. s.places q (omega arith));
      others = λ q h. (let n : q ≢ i = omega arith in get_or-set_other after i q x.cents (pos 0) n) ∙ s.others q (omega arith);
    }

past : (b : Book) (q : ℕ) (f : BookFault) → Err f ≡ option_map_or Err (party_fault (in_book b) q) (Ok (payable (in_book b) q)) → b.party_count ≤ q
past b q f e =
    ⊎_elim
    (λ (l : q < b.party_count). never (payable (in_book b) q) f (sym (e ∙ ap (λ o. option_map_or Err o (Ok (payable (in_book b) q))) (party_within (in_book b) q l))))
    (λ (l : b.party_count ≤ q). l)
    (cases_lt q (b.party_count))

pub refused : (k b b' : Book) (before after : List ℤ) (i : ℕ) (f : BookFault) → SettledTo k b before after i → IsSoundCall (settling i (Err f)) b b' → SettledTo k b' before after (i + 1)
refused k b b' before after i f s w =
    let l = past b i f w.did.answered in
    let same : b' ≡ b = w.did.changes in
    subst (λ c. SettledTo k c before after (i + 1)) (sym same)
    (record {
      counts = s.counts;
      quarters = s.quarters;
      imbalances = s.imbalances;
      paid = λ q h m. s.paid q (omega (arith, s.counts.1)) m;
      unpaid = λ q h. s.unpaid q (omega arith);
      length = s.length;
      places = λ q h.
          ⊎_elim
          (λ (e : i ≡ q). subst (λ n. get_or after n (pos 0) ≡ cond (ltb n (k.party_count)) (payable (in_book k) n) (get_or before n (pos 0))) e
          (cond_above i (k.party_count) _ _ _ (omega (arith, s.counts.1)) (s.others i (omega arith))))
          (λ (n : i ≡ q → ⊥). s.places q (omega arith))
          (cases_eq i q);
      others = λ q h. s.others q (omega arith);
    })

pub all_placed : (k b : Book) (before after : List ℤ) (i : ℕ) → length before ≤ i → SettledTo k b before after i → after ≡ payments_over (in_book k) before
all_placed k b before after i l s =
    fill_by_all (λ q. cond (ltb q (k.party_count)) (payable (in_book k) q) (get_or before q (pos 0))) after (length before) (pos 0) s.length (λ q h. s.places q (omega arith))
