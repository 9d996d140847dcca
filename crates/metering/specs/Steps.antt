-- What only private functions cite.
use Rattle.std.specs.Prelude.{List, length, ℤ, Ok, Err, Result, nat_lt, if◌then◌else◌}
use Rattle.metering.specs.Imbalances.{first_beyond, is_beyond, position}
use Rattle.metering.specs.declared.fault.MeteringFault.{MeteringFault}
use Rattle.metering.specs.declared.fault.MeteringFault.TheVariants.{Schedule}

-- a number, or its fault where it is out of bounds
abbrev pub in_bounds : ℤ → MeteringFault → Result ℤ MeteringFault
in_bounds z fault = if is_beyond z then Err fault else Ok z

-- the position, or the fault of the first schedule that is out of bounds
abbrev pub position_of : List ℤ → Result ℤ MeteringFault
position_of s = if nat_lt (first_beyond s) (length s) then Err (Schedule (first_beyond s)) else Ok (position s)
