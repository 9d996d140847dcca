use Rattle.std.proofs.Common.{◌≡◌, ◌+◌, ◌*◌, ◌≤◌, take, drop, nat_abs}
use Rattle.metering.specs.Imbalances.{first_beyond, position}
use Rattle.metering.specs.declared.meter_values.TheConstants.{MOST_KWH}
use Rattle.metering.proofs.meter_values.position_of.Given as goal

abbrev pub invariant-loop-index : goal.invariant-loop-index
invariant-loop-index l =
    (l.position ≡ position (take l.index l.schedules))
    × (nat_abs l.position ≤ l.index * MOST_KWH)
    × (first_beyond l.schedules ≡ l.index + first_beyond (drop l.index l.schedules))
