-- What private functions ask.
use Rattle.std.specs.Prelude.{◌<◌, List}
use Rattle.std.specs.List.{AllPairs}
use Rattle.ladders.specs.Orders.{Order}

-- the numbers rise
abbrev pub IsByNumber : {T : Type 0} → Order T → List T → Type 0
IsByNumber o l = AllPairs (λ x y. o.number x < o.number y) l
