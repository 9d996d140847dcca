-- The number of a bid, and the refusals of plain numbers that make no bid.
use Rattle.std.specs.Prelude.{ℕ, ◌&&◌, Bool, ℤ, pos, Ok, Err, Result, int_le, unsigned_abs, if◌then◌else◌}
use Rattle.bids.specs.declared.fault.BidFault.{BidFault}
use Rattle.bids.specs.declared.fault.BidFault.TheVariants.{Quantity, Number}

-- 20 the quantity is out of bounds, 5 the number is
abbrev pub refusal_number : BidFault → ℕ
refusal_number Quantity = 20
refusal_number Number = 5

-- 0 the quantity, 3 the number
abbrev pub refusal_place : BidFault → ℕ
refusal_place Quantity = 0
refusal_place Number = 3

-- the greatest number of a bid
abbrev pub most_number : ℕ
most_number = 65_535

-- from 0 to 65,535
abbrev pub is_number : ℤ → Bool
is_number n = int_le (pos 0) n && int_le n (pos most_number)

-- the number of a bid, or the refusal
abbrev pub number_made : ℤ → Result ℕ BidFault
number_made n = if is_number n then Ok (unsigned_abs n) else Err Number
