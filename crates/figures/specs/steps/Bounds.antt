-- How great a volume and a net may be.
use Rattle.std.specs.Prelude.{ℕ, ◌*◌}
use Rattle.source.specs.declared.product.TheConstants.{CYCLES}
use Rattle.source.specs.declared.slot.TheConstants.{SLOTS}
use Rattle.units.specs.declared.bounds.TheConstants.{MOST_KW}

-- the greatest volume of a manual slot, and of all cycles together: the greatest demand, times 225
abbrev pub most_volume : ℕ
most_volume = CYCLES * MOST_KW

-- the greatest size of a net: in each slot the greatest volume
abbrev pub most_net : ℕ
most_net = SLOTS * most_volume
