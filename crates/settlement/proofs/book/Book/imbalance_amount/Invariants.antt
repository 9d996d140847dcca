use Rattle.std.proofs.Common.{◌≡◌, ◌*◌, ◌≤◌, length, ◌*ℤ◌, nat_abs}
use Rattle.settlement.specs.Books.{imbalance_at, quarter_at}
use Rattle.settlement.specs.Known.{sum_to}
use Rattle.settlement.specs.Standings.{standing_cents}
use Rattle.settlement.specs.declared.quarter.TheConstants.{MOST_AMOUNT}
use Rattle.settlement.proofs.book.Book.imbalance_amount.Given as goal

abbrev pub invariant-loop-quarter : goal.invariant-loop-quarter
invariant-loop-quarter l =
    (goal.iterator-loop-quarter).can_next l.quarter-iterator ×
    (goal.iterator-loop-quarter).is_finite l.quarter-iterator ×
    (length l.yielded ≤ l.self.period_count) ×
    (l.sum ≡ sum_to (length l.yielded) (λ p. (imbalance_at l.self p l.party).kwh *ℤ standing_cents (quarter_at l.self p))) ×
    (nat_abs l.sum ≤ length l.yielded * MOST_AMOUNT)
