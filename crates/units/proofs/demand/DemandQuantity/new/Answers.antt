use Rattle.std.proofs.Common.{arith}
use Rattle.std.proofs.lemmas.Int.{ints}
use Rattle.units.proofs.Made.{demand_made}
use Rattle.units.proofs.demand.DemandQuantity.new.Goals as goal

pub returns : goal.returns
returns c = demand_made c.args.number _ (omega (arith, ints, c.in_ok-kw.ensures.unchanged))
