use Rattle.ladders.specs.Ladders.{items_in}
use Rattle.exports.proofs.Laddering.{WithdrawnTo}
use Rattle.exports.proofs.bench_ladder.withdraw_all.Given as goal

abbrev pub invariant-loop-number : goal.invariant-loop-number
invariant-loop-number l = WithdrawnTo l.fn.numbers (items_in l.fn.ladder) (items_in l.ladder) l.number-index l.withdrawn
