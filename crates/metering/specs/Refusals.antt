-- The number and the place of the refusal of meter values.
use Rattle.std.specs.Prelude.{ℕ, ◌+◌}
use Rattle.metering.specs.declared.fault.MeteringFault.{MeteringFault}
use Rattle.metering.specs.declared.fault.MeteringFault.TheVariants.{TooManySchedules, Schedule, Position, Allocated, Adjustment}
use Rattle.metering.specs.declared.meter_values.TheConstants.{MOST_SCHEDULES}

-- 13: the meter values give no imbalance
abbrev pub metering_number : MeteringFault → ℕ
metering_number TooManySchedules = 13
metering_number (Schedule k) = 13
metering_number Position = 13
metering_number Allocated = 13
metering_number Adjustment = 13

-- the schedule; and past the places of schedules, 32 to 35: too many, the position, the allocated volume, the adjustment
abbrev pub metering_place : MeteringFault → ℕ
metering_place TooManySchedules = MOST_SCHEDULES
metering_place (Schedule k) = k
metering_place Position = MOST_SCHEDULES + 1
metering_place Allocated = MOST_SCHEDULES + 2
metering_place Adjustment = MOST_SCHEDULES + 3
