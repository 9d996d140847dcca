use Rattle.std.proofs.Common.{◌≡◌, ℕ, ◌≤◌, ◌&&◌, leb, replicate, Some, None, Ok, refl, ap, ◌∙◌, rules}
use Rattle.std.proofs.lemmas.Bool.{and_from, le-leb}
use Rattle.std.specs.Prelude.{if◌then◌else◌}
use Rattle.std.specs.Option.{option_or}
use Rattle.settlement.specs.Books.{IsFresh}
use Rattle.settlement.specs.Runs.{begun}
use Rattle.settlement.specs.Starting.{Begins, count_fault}
use Rattle.settlement.specs.declared.book.Book.{Book}
use Rattle.settlement.specs.declared.book.TheConstants.{MOST_PERIODS, MOST_PARTIES}
use Rattle.settlement.specs.declared.fault.CountFault.TheVariants.{Periods, Parties}
use Rattle.settlement.proofs.Kept.{fresh_sound}
use Rattle.settlement.proofs.Starts.{started_once}
use Rattle.settlement.proofs.book.Book.start.Goals as goal

counts : (n m : ℕ) → 1 ≤ n → n ≤ MOST_PERIODS → 1 ≤ m → m ≤ MOST_PARTIES → count_fault n m ≡ None
counts n m a b d e =
    ap (λ t. option_or (if t then None else Some Periods) (if leb 1 m && leb m MOST_PARTIES then None else Some Parties)) (and_from _ _ (le-leb 1 n a) (le-leb n MOST_PERIODS b))
    ∙ ap (λ t. if t then None else Some Parties) (and_from _ _ (le-leb 1 m d) (le-leb m MOST_PARTIES e))

begins : (n m : ℕ) (b : Book) → count_fault n m ≡ None → b.period_count ≡ n → b.party_count ≡ m → IsFresh b → Begins n m b
begins n m b c p q f = record { counts = c; periods = p; parties = q; fresh = f; run = begun b f; sound = fresh_sound b f }

pub returns-clause-started : goal.returns-clause-started
returns-clause-started c =
    let n = c.args.periods in
    let m = c.args.parties in
    begins n m _ (counts n m (search rules) (search rules) (search rules) (search rules)) refl refl (record {
      blank = search rules;
      unmetered = ap (replicate MOST_PARTIES) c.blank.ensures.unmetered;
      unpaid = ap (replicate MOST_PARTIES) c.blank.ensures.unpaid;
    })

pub returns-clause-only_answer : goal.returns-clause-only_answer
returns-clause-only_answer c = λ r t. started_once c.args.periods c.args.parties (Ok _) r (returns-clause-started c) t
