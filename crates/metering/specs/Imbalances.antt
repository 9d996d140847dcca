-- The imbalance of a party in a quarter, from what is metered of it.
use Rattle.std.specs.Prelude.{◌≡◌, ℕ, Bool, List, length, ℤ, pos, ◌+ℤ◌, ◌-ℤ◌, Some, None, Ok, Err, fold, Option, Result, nat_lt, unsigned_abs, if◌then◌else◌}
use Rattle.std.proofs.Common.{lit≤}
use Rattle.std.specs.List.{position_or_len}
use Rattle.std.specs.Option.{option_map_or}
use Rattle.metering.specs.declared.fault.MeteringFault.{MeteringFault}
use Rattle.metering.specs.declared.fault.MeteringFault.TheVariants.{TooManySchedules, Schedule, Position, Allocated, Adjustment}
use Rattle.metering.specs.declared.imbalance.Imbalance.{Imbalance}
use Rattle.metering.specs.declared.imbalance.TheConstants.{MOST_IMBALANCE}
use Rattle.metering.specs.declared.meter_values.MeterValues.{MeterValues}
use Rattle.metering.specs.declared.meter_values.TheConstants.{MOST_KWH, MOST_SCHEDULES}

-- trade schedules, allocated volume and adjustment, in whole kWh
pub record Values : Type 0 where
  pub schedules : List ℤ
  pub allocated : ℤ
  pub adjustment : ℤ

-- what the meter values hold
abbrev pub values_of : MeterValues → Values
values_of v = record { schedules = v.schedules.now; allocated = v.allocated; adjustment = v.adjustment }

-- the position is the sum of the schedules
abbrev pub position : List ℤ → ℤ
position s = fold ◌+ℤ◌ (pos 0) s

-- allocated less position less adjustment, where upward delivery is a positive adjustment
abbrev pub imbalance : Values → ℤ
imbalance v = (v.allocated -ℤ position v.schedules) -ℤ v.adjustment

-- the most trade schedules; the most kWh, either way, of what is metered and of the position; and of an imbalance
pub record MostMetered : Type 0 where
  pub schedules : MOST_SCHEDULES ≡ 32
  pub kwh : MOST_KWH ≡ 5_000_000
  pub imbalance : MOST_IMBALANCE ≡ 15_000_000

-- whether a number is out of bounds
abbrev pub is_beyond : ℤ → Bool
is_beyond z = nat_lt MOST_KWH (unsigned_abs z)

-- the place of the first schedule that is out of bounds, or past the last where none is
abbrev pub first_beyond : List ℤ → ℕ
first_beyond s = position_or_len is_beyond s

-- 13: the checks of meter values in their order
abbrev pub metering_fault : Values → Option MeteringFault
metering_fault v =
    if nat_lt MOST_SCHEDULES (length v.schedules) then Some TooManySchedules
    else if nat_lt (first_beyond v.schedules) (length v.schedules) then Some (Schedule (first_beyond v.schedules))
    else if is_beyond (position v.schedules) then Some Position
    else if is_beyond v.allocated then Some Allocated
    else if is_beyond v.adjustment then Some Adjustment
    else None

-- the fault of the first check that is not passed, or else the imbalance
abbrev pub imbalance_of : Values → Result ℤ MeteringFault
imbalance_of v = option_map_or Err (metering_fault v) (Ok (imbalance v))

-- an answer in plain kWh
abbrev pub kwh_of : {F : Type 0} → Result Imbalance F → Result ℤ F
kwh_of (Ok i) = Ok i.kwh
kwh_of (Err f) = Err f

-- the imbalance of a party of which nothing is metered
abbrev pub balanced : Imbalance
balanced = record { kwh = pos 0; bounded = lit≤ tt }
