use Rattle.std.proofs.Common.{arith}
use borrow.Author.Differences.{ints}
use Rattle.std.proofs.lemmas.Int.{to_z-of_z, to_z_pos}
use Rattle.units.proofs.Cross.{cross_fits}
use Rattle.units.proofs.ratio.Ratio.at_most.Goals as goal

pub returns : goal.returns
returns c = grind (arith, ints, to_z-of_z, to_z_pos, cross_fits)
