use Rattle.std.proofs.Common.{◌≡◌, ◌≤◌, ℤ, nat_abs, ap, ◌∙◌, arith, w64, SFits}
use borrow.Author.Differences.{ints}
use Rattle.std.proofs.lemmas.Int.{to_z-of_z}
use Rattle.units.specs.Rounding.{rounded}
use Rattle.settlement.specs.declared.party.TheConstants.{MOST_PAID}
use Rattle.settlement.proofs.Sums.{due_small}
use Rattle.settlement.proofs.book.Book.due.Goals as goal

small : (c : goal.After-nearest) → (c.nearest.result ≡ rounded c.imbalance_amount.result 1000) × (nat_abs c.nearest.result ≤ MOST_PAID)
small c = due_small c.imbalance_amount.result c.nearest.result c.imbalance_amount.ensures.bound c.nearest.ensures

pub returns-clause-in_whole_cents : goal.returns-clause-in_whole_cents
returns-clause-in_whole_cents c =
    let fits : SFits w64 c.nearest.result = omega (arith, ints, (small c).1) in
    simp to_z-of_z ((small c).0 ∙ ap (λ (t : ℤ). rounded t 1000) c.imbalance_amount.ensures.in_all)

pub returns-clause-bound : goal.returns-clause-bound
returns-clause-bound c =
    let fits : SFits w64 c.nearest.result = omega (arith, ints, (small c).1) in
    simp to_z-of_z (small c).1
