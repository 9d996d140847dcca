use Rattle.std.proofs.Common.{arith}
use Rattle.figures.specs.Components.{counting_price}
use Rattle.figures.proofs.quarter_figures.Figures.counting_manual.Goals as goal

pub returns : goal.returns
returns c = grind (arith, c.manual_extreme.ensures counting_price)
