-- Of an order that is not said to go by number nothing is asked.
use Rattle.std.specs.Prelude.{false}
use Rattle.std.proofs.lemmas.Bool.{false≢true}
use Rattle.ladders.specs.Orders.{GoesByNumber, Order}

pub not_by_number : {T : Type 0} (o : Order T) → GoesByNumber false o
not_by_number o e x y = absurd (false≢true e)
