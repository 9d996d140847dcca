use Rattle.std.proofs.Common.{arith}
use Rattle.figures.specs.Components.{formed_price}
use Rattle.figures.proofs.quarter_figures.Figures.formed_manual.Goals as goal

pub returns : goal.returns
returns c = grind (arith, c.manual_extreme.ensures formed_price)
