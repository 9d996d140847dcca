-- Calls keep their promises, by what their steps answer and change.
use Rattle.std.proofs.Common.{◌≡◌, ℕ, ◌<◌, ℤ, ◌+ℤ◌, ◌-ℤ◌, Ok, Result, ap, ◌∙◌, subst, arith}
use borrow.Author.Differences.{ints}
use Rattle.units.specs.Rounding.{rounded}
use Rattle.units.specs.declared.euros.Amount.{Amount}
use Rattle.settlement.specs.Books.{in_book, paid_to, quarter_at}
use Rattle.settlement.specs.Changes.{Paid}
use Rattle.settlement.specs.Events.{closing, settling}
use Rattle.settlement.specs.Known.{imbalance_amount}
use Rattle.settlement.specs.Promises.{IsSoundCall}
use Rattle.settlement.specs.steps.Turns.{Turned, meets}
use Rattle.settlement.specs.declared.book.Book.{Book}
use Rattle.settlement.specs.declared.fault.BookFault.{BookFault}
use Rattle.settlement.specs.declared.quarter.Call.TheVariants.{Close}
use Rattle.settlement.specs.declared.quarter.Quarter.{Quarter}
use Rattle.settlement.proofs.Kept.{sound_call}
use Rattle.settlement.proofs.Steps.{close_answered, settle_answered}

pub close_sound : (b b' : Book) (p : ℕ) (a : Result Quarter BookFault) → p < b.period_count → a ≡ meets p (quarter_at b p) Close → Turned b b' p Close a → IsSoundCall (closing p a) b b'
close_sound b b' p a l e t = sound_call (closing p a) b b' (record { lawful = tt; answered = close_answered (in_book b) p a l e; changes = t })

pub settle_sound : (b b' : Book) (q : ℕ) (due x : Amount) → q < b.party_count → due.cents ≡ rounded (imbalance_amount (in_book b) q) 1000 → x.cents ≡ due.cents -ℤ (paid_to b q).cents → Paid b b' q due → IsSoundCall (settling q (Ok x)) b b'
settle_sound b b' q due x l e f d =
    let paid : due.cents ≡ (paid_to b q).cents +ℤ x.cents = omega (arith, ints, f) in
    sound_call (settling q (Ok x)) b b' (record {
      lawful = tt;
      answered = settle_answered (in_book b) q x.cents l (f ∙ ap (λ (z : ℤ). z -ℤ (paid_to b q).cents) e);
      changes = subst (λ (z : ℤ). Paid b b' q (record { cents = z })) paid d;
    })
