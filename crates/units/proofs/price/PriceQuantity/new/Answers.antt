use Rattle.std.proofs.Common.{arith}
use Rattle.std.proofs.lemmas.Int.{ints}
use Rattle.units.proofs.Made.{price_made}
use Rattle.units.proofs.price.PriceQuantity.new.Goals as goal

pub returns : goal.returns
returns c = price_made c.args.number _ (omega (arith, ints, c.in_ok-cents.ensures.unchanged))
