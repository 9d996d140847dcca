-- What a slot tells in a direction.
use Rattle.std.specs.Prelude.{Option}
use Rattle.source.specs.declared.direction.Direction.{Direction}
use Rattle.source.specs.declared.direction.Direction.TheVariants.{Up, Down}
use Rattle.source.specs.declared.slot.Reading.{Reading}
use Rattle.units.specs.declared.price.Price.{Price}

-- what is told of a slot: a reading, or nothing where the slot is unreported
abbrev pub Slot : Type 0
Slot = Option Reading

-- the price formed in a direction, if one is
abbrev pub formed : Direction → Reading → Option Price
formed Up r = r.up
formed Down r = r.down
