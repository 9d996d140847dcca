use borrow.Author.Differences.{ints}
use Rattle.std.proofs.Common.{arith}
use Rattle.figures.proofs.Facts.{sizes_in}
use Rattle.figures.proofs.quarter_figures.Figures.automatic_mean.Goals as goal

pub invariant_of-result : goal.invariant_of-result
invariant_of-result c =
    let s = sizes_in c.args.self.now c.args.direction c.side.result c.side.ensures in
    record { divides = omega arith; bounded_denominator = omega arith; bounded = omega (arith, ints) }
