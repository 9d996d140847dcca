use Rattle.exports.proofs.Metering.{MeteredTo}
use Rattle.exports.proofs.bench_day.meter_all.Given as goal

abbrev pub invariant-loop-period : goal.invariant-loop-period
invariant-loop-period l = MeteredTo l.fn.book l.book l.period 0

abbrev pub invariant-loop-party : goal.invariant-loop-party
invariant-loop-party l = MeteredTo l.fn.book l.book l.period l.party
