use Rattle.std.proofs.Common.{arith}
use Rattle.std.proofs.lemmas.Int.{ints}
use Rattle.units.proofs.Made.{zone_net_made}
use Rattle.units.proofs.zone_net.ZoneNetQuantity.new.Goals as goal

pub returns : goal.returns
returns c = zone_net_made c.args.number _ (omega (arith, ints, c.in_ok-kw.ensures.unchanged))
