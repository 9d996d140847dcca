use Rattle.std.proofs.Common.{arith}
use borrow.Author.Differences.{ints}
use Rattle.std.proofs.lemmas.Int.{to_z-of_z, to_z_pos}
use Rattle.units.specs.declared.bounds.TheConstants.{MOST_KW}
use Rattle.figures.proofs.Products.{product_within}
use Rattle.figures.proofs.weighed.Weighed.energy.Goals as goal

pub returns : goal.returns
returns c = let h = product_within c.args.self.weight MOST_KW c.args.self.reading.demand.kw c.args.self.reading.demand.bounded in grind (arith, ints, to_z-of_z, to_z_pos)
