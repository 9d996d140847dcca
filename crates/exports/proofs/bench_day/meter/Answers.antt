use Rattle.std.proofs.Common.{arith, refl, subst}
use borrow.Author.Differences.{ints}
use Rattle.settlement.specs.Events.{metering}
use Rattle.settlement.specs.Promises.{IsSoundCall}
use Rattle.exports.proofs.Metering.{as_told}
use Rattle.exports.proofs.bench_day.meter.Goals as goal

pub returns : goal.returns
returns c =
    subst (λ v. IsSoundCall (metering c.args.period c.args.party v c.meter.result) c.args.book.now c.meter.new.self)
    (as_told c.args.period c.args.party c.args.late _ _ _ refl (omega (arith, ints)) (omega (arith, ints)) (omega (arith, ints)) (omega (arith, ints)))
    c.meter.ensures
