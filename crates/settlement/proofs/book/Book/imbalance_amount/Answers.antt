use Rattle.std.proofs.Common.{◌≡◌, ℕ, ◌*◌, ◌<◌, ◌≤◌, length, take, ℤ, ◌+ℤ◌, ◌*ℤ◌, nat_abs, sym, refl, ◌∙◌, arith, w64, SFits}
use Rattle.std.specs.Iterator.Adapters.{zip_first, zip_second}
use Rattle.std.specs.Slice.Iter.{iter_rest}
use Rattle.std.proofs.lemmas.Int.{to_z-of_z}
use Rattle.std.proofs.lemmas.List.{get_or-take, length-take, length_push}
use Rattle.std.proofs.lemmas.Slice.Zip.{zip_turn}
use Rattle.metering.specs.Imbalances.{balanced}
use Rattle.settlement.specs.Books.{imbalance_at, imbalances_of, quarter_at}
use Rattle.settlement.specs.Standings.{standing_cents}
use Rattle.settlement.specs.declared.quarter.TheConstants.{MOST_AMOUNT}
use Rattle.settlement.specs.declared.quarter.Quarter.TheVariants.{Blank}
use Rattle.settlement.proofs.Readings.{row_of}
use Rattle.settlement.proofs.Sums.{sum_fits, sum_more, sum_small}
use Rattle.settlement.proofs.book.Book.imbalance_amount.Goals as goal

-- this turn's term
abbrev term : goal.After-amount_for-sum → ℤ
term c = c.amount_for-sum.result

abbrev so_far : goal.After-amount_for-sum → ℕ
so_far c = length c.loop-quarter.yielded

-- this turn's quarter and imbalance stand at the number of turns so far
turn : (c : goal.After-amount_for-sum) → (so_far c < c.args.self.now.period_count) × (c.in-Some.quarter.now ≡ quarter_at c.args.self.now (so_far c)) × (c.in-Some.imbalance.now ≡ imbalance_at c.args.self.now (so_far c) c.args.party)
turn c =
    let b = c.args.self.now in
    let n = b.period_count in
    let first : iter_rest (zip_first c.into_iter-quarter-iterator.result) ≡ take n b.quarters = rw (c.into_iter-quarter-iterator.ensures.into_iter_gives, c.zip-quarter-items.ensures.first) c.iter.ensures.rest in
    let second : iter_rest (zip_second c.into_iter-quarter-iterator.result) ≡ imbalances_of b c.args.party = rw (c.into_iter-quarter-iterator.ensures.into_iter_gives, c.zip-quarter-items.ensures.second) (c.iter-2.ensures.rest ∙ row_of b c.args.party c.index-self-party.result c.requires) in
    let t = zip_turn _ _ c.loop-quarter.yielded c.into_iter-quarter-iterator.result c.loop-quarter.quarter-iterator c.next.new.self _ first second c.loop-quarter.yielded_by _ c.in-Some.is c.next.ensures.steps in
    let l : so_far c < n = omega (arith, t.0, length-take n b.quarters) in
    (l, t.2 Blank ∙ get_or-take n b.quarters (so_far c) Blank l, t.3 balanced)

term_is : (c : goal.After-amount_for-sum) → term c ≡ (imbalance_at c.args.self.now (so_far c) c.args.party).kwh *ℤ standing_cents (quarter_at c.args.self.now (so_far c))
term_is c =
    let t = turn c in
    rw (c.amount_for-sum.ensures.product, t.1, t.2) refl

sum_so_far : (c : goal.After-amount_for-sum) → nat_abs c.loop-quarter.sum ≤ so_far c * MOST_AMOUNT
sum_so_far c = simp c.loop-quarter.sum-is at c.loop-quarter.invariant.4

fits_sum : (c : goal.After-amount_for-sum) → SFits w64 (c.loop-quarter.sum +ℤ term c)
fits_sum c = sum_fits c.loop-quarter.sum (term c) (so_far c) (sum_so_far c) (omega (arith, (turn c).0, c.args.self.now.counts.1)) c.amount_for-sum.ensures.bound

pub overflow_add-sum : goal.overflow_add-sum
overflow_add-sum c =
    let ft : SFits w64 (term c) = record { sfits = c.amount_for-sum.type_inv } in
    simp (to_z-of_z, c.loop-quarter.sum-is) (fits_sum c)

pub loop-quarter-preserved : goal.loop-quarter-preserved
loop-quarter-preserved c =
    let ft : SFits w64 (term c) = record { sfits = c.amount_for-sum.type_inv } in
    let fs = fits_sum c in (
      (tt, tt),
      tt,
      omega (arith, length_push c.loop-quarter.yielded (c.in-Some.quarter, c.in-Some.imbalance), (turn c).0),
      rw (length_push c.loop-quarter.yielded (c.in-Some.quarter, c.in-Some.imbalance)) (simp (to_z-of_z, c.loop-quarter.sum-is) (sum_more c.loop-quarter.sum (term c) (so_far c)
          (λ p. (imbalance_at c.args.self.now p c.args.party).kwh *ℤ standing_cents (quarter_at c.args.self.now p))
          (sym c.loop-quarter.sum-is ∙ c.loop-quarter.invariant.3) (term_is c))),
      rw (length_push c.loop-quarter.yielded (c.in-Some.quarter, c.in-Some.imbalance)) (simp (to_z-of_z, c.loop-quarter.sum-is) (sum_small c.loop-quarter.sum (term c) (so_far c) (sum_so_far c) c.amount_for-sum.ensures.bound)),
    )
