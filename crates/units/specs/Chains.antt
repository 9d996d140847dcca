-- One answer after another: the first refusal ends the chain.
use Rattle.std.specs.Prelude.{Ok, Err, Result}

-- what follows from a value; a refusal stays
abbrev pub result_and_then : {X Y E : Type 0} → Result X E → (X → Result Y E) → Result Y E
result_and_then (Ok x) f = f x
result_and_then (Err e) f = Err e

-- the refusal as another tells it; a value stays
abbrev pub result_map_err : {X E F : Type 0} → Result X E → (E → F) → Result X F
result_map_err (Ok x) f = Ok x
result_map_err (Err e) f = Err (f e)
