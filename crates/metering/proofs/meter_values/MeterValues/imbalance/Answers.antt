use Rattle.std.proofs.Common.{◌≡◌, ℤ, ◌-ℤ◌, Ok, ap, ◌∙◌, arith, w64, SFits, rules}
use borrow.Author.Differences.{ints}
use Rattle.std.proofs.lemmas.Int.{to_z-of_z}
use Rattle.metering.specs.Imbalances.{values_of}
use Rattle.metering.proofs.Passed.{passed}
use Rattle.metering.proofs.meter_values.MeterValues.imbalance.Goals as goal

pub returns-clause-imbalance_or_first_fault : goal.returns-clause-imbalance_or_first_fault
returns-clause-imbalance_or_first_fault c =
    let fs : SFits w64 c.in_ok-position_of.field-0 = omega (arith, ints, c.in_ok-position_of.ensures.bound) in
    let fa : SFits w64 c.args.self.now.allocated = search rules in
    let fd : SFits w64 c.args.self.now.adjustment = search rules in
    let p : ℤ = c.in_ok-position.position in
    let a : ℤ = c.in_ok-allocated.allocated in
    let d : ℤ = c.in_ok-adjustment.adjustment in
    let gp : SFits w64 p = omega (arith, ints, c.in_ok-position.ensures.bound) in
    let ga : SFits w64 a = omega (arith, ints, c.in_ok-allocated.ensures.bound) in
    let gd : SFits w64 d = omega (arith, ints, c.in_ok-adjustment.ensures.bound) in
    let k : c.difference.result.kwh ≡ (a -ℤ p) -ℤ d = simp to_z-of_z at c.difference.ensures in
    ap Ok k ∙ passed (values_of c.args.self.now) c.in_ok-position_of.field-0 p a d _ _ _ c.if-self-gt-MOST_SCHEDULES.false c.in_ok-position_of.ensures.sum_or_first_fault
    (simp to_z-of_z at c.in_ok-position.ensures.kwh_in_bounds) (simp to_z-of_z at c.in_ok-allocated.ensures.kwh_in_bounds) (simp to_z-of_z at c.in_ok-adjustment.ensures.kwh_in_bounds)
