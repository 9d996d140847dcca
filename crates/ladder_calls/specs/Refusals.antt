-- The number and the place of a call's refusal: those of what refuses it.
use Rattle.std.specs.Prelude.{ℕ}
use Rattle.units.specs.Bounds as bounds
use Rattle.bids.specs.Numbers as bids
use Rattle.ladders.specs.Refusals as ladders
use Rattle.ladder_calls.specs.declared.fault.CallFault.{CallFault}
use Rattle.ladder_calls.specs.declared.fault.CallFault.TheVariants.{Price, Bid, Ladder}

-- 5 the price or the bid's number is out of bounds, 20 its quantity; 17, 18 and 19 of the ladder
abbrev pub call_number : CallFault → ℕ
call_number (Price f) = bounds.refusal_number f
call_number (Bid f) = bids.refusal_number f
call_number (Ladder f) = ladders.refusal_number f

-- in making a bid 1 the price, 0 the quantity, 3 the number; of the ladder how many bids stand, or the number
abbrev pub call_place : CallFault → ℕ
call_place (Price f) = bounds.refusal_place f
call_place (Bid f) = bids.refusal_place f
call_place (Ladder f) = ladders.refusal_place f
