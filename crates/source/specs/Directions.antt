-- The direction of a net, and what belongs to a direction.
use Rattle.std.specs.Prelude.{ℤ, pos, Some, None, Option, int_lt, if◌then◌else◌}
use Rattle.source.specs.declared.direction.Direction.{Direction}
use Rattle.source.specs.declared.direction.Direction.TheVariants.{Up, Down}

-- above 0 up, below 0 down, none at 0
abbrev pub toward : ℤ → Option Direction
toward z = if int_lt (pos 0) z then Some Up else if int_lt z (pos 0) then Some Down else None

-- of a value for each direction, the one of this
abbrev pub picked : {X : Type 0} → Direction → X → X → X
picked Up x y = x
picked Down x y = y
