use Rattle.exports.proofs.Pricing.{PricedTo}
use Rattle.exports.proofs.bench_day.price_all.Given as goal

abbrev pub invariant-loop-period : goal.invariant-loop-period
invariant-loop-period l = PricedTo l.fn.sheets l.fn.ends l.fn.book l.book l.period l.priced l.start
