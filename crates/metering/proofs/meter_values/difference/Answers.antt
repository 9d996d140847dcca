use Rattle.std.proofs.Common.{arith}
use borrow.Author.Differences.{ints}
use Rattle.metering.proofs.meter_values.difference.Goals as goal

pub invariant_of-result : goal.invariant_of-result
invariant_of-result c = record { bounded = omega (arith, ints, c.requires.allocated, c.requires.position, c.requires.adjustment) }
