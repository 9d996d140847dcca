use borrow.Author.Differences.{ints}
use Rattle.std.proofs.Common.{arith}
use Rattle.figures.proofs.Facts.{sizes_in}
use Rattle.figures.proofs.quarter_figures.Figures.weighted_mean.Goals as goal

pub overflow_add-volume : goal.overflow_add-volume
overflow_add-volume c = let s = sizes_in c.args.self.now c.args.direction c.side-side.result c.side-side.ensures in omega arith

pub overflow_add-volume-2 : goal.overflow_add-volume-2
overflow_add-volume-2 c = let s = sizes_in c.args.self.now c.args.direction c.side-side.result c.side-side.ensures in omega arith

pub overflow_add-volume-3 : goal.overflow_add-volume-3
overflow_add-volume-3 c = let s = sizes_in c.args.self.now c.args.direction c.side-side.result c.side-side.ensures in omega arith

pub overflow_add-result : goal.overflow_add-result
overflow_add-result c = let s = sizes_in c.args.self.now c.args.direction c.side-side.result c.side-side.ensures in omega (arith, ints)

pub invariant_of-result : goal.invariant_of-result
invariant_of-result c =
    let s = sizes_in c.args.self.now c.args.direction c.side-side.result c.side-side.ensures in
    record { divides = omega arith; bounded_denominator = omega arith; bounded = omega (arith, ints) }
