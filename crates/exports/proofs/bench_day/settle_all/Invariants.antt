use Rattle.exports.proofs.Settling.{SettledTo}
use Rattle.exports.proofs.bench_day.settle_all.Given as goal

abbrev pub invariant-loop-party : goal.invariant-loop-party
invariant-loop-party l = SettledTo l.fn.book l.book l.fn.payments l.payments l.party
