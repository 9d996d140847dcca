use Rattle.std.proofs.Common.{arith}
use Rattle.std.proofs.lemmas.Grind.{common_steps}
use Rattle.figures.proofs.Products.{manual_turnover_within}
use Rattle.figures.proofs.side.Manual.turnover.Goals as goal

pub returns-clause-volume_times_price : goal.returns-clause-volume_times_price
returns-clause-volume_times_price c = grind (arith, common_steps)

pub returns-clause-bounded : goal.returns-clause-bounded
returns-clause-bounded c = grind (arith, manual_turnover_within, returns-clause-volume_times_price c)
