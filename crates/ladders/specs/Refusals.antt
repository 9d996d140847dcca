-- The number and the place of each refusal.
use Rattle.std.specs.Prelude.{ℕ}
use Rattle.ladders.specs.declared.fault.LadderFault.{LadderFault}
use Rattle.ladders.specs.declared.fault.LadderFault.TheVariants.{Full, Standing, NotStanding}

-- 17 as many items stand as may, 18 an item of the number stands already, 19 none of the number stands
abbrev pub refusal_number : LadderFault → ℕ
refusal_number (Full count) = 17
refusal_number (Standing number) = 18
refusal_number (NotStanding number) = 19

-- how many items stand; or the number
abbrev pub refusal_place : LadderFault → ℕ
refusal_place (Full count) = count
refusal_place (Standing number) = number
refusal_place (NotStanding number) = number
