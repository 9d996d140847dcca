-- A bid of a price and two plain numbers, or the refusal where one is out of bounds.
use Rattle.std.specs.Prelude.{◌≡◌, ◌&&◌, Bool, ℤ, pos, Ok, Err, Result, int_le, unsigned_abs, if◌then◌else◌}
use Rattle.units.specs.Chains.{result_and_then}
use Rattle.units.specs.declared.price.Price.{Price}
use Rattle.bids.specs.Numbers.{number_made}
use Rattle.bids.specs.declared.bid.Bid.{Bid}
use Rattle.bids.specs.declared.bid.TheConstants.{MOST_QUANTITY}
use Rattle.bids.specs.declared.kinds.TheConstants.{MOST_BIDS}
use Rattle.bids.specs.declared.fault.BidFault.{BidFault}
use Rattle.bids.specs.declared.fault.BidFault.TheVariants.{Quantity}
use Rattle.bids.specs.declared.row.BidRow.{BidRow}

-- the numbers by which code and definitions go: the greatest quantity in kW, and the most bids on a ladder
pub record BidBounds : Type 0 where
  pub quantity : MOST_QUANTITY ≡ 10_000_000
  pub bids : MOST_BIDS ≡ 512

-- whole kW, from 1 to 10,000,000
abbrev pub is_quantity : ℤ → Bool
is_quantity kw = int_le (pos 1) kw && int_le kw (pos MOST_QUANTITY)

-- a bid as plain numbers: its price in cents, its quantity in kW, its number
abbrev pub row_of : Bid → BidRow
row_of b = record { cents = b.price.cents; kw = b.kw; number = b.number }

-- a bid that is made, as plain numbers; or the refusal
abbrev pub as_row : Result Bid BidFault → Result BidRow BidFault
as_row (Ok b) = Ok (row_of b)
as_row (Err f) = Err f

-- a bid of a price and plain numbers: first its quantity has to be in bounds, then its number
abbrev pub row_made : Price → (kw number : ℤ) → Result BidRow BidFault
row_made p kw n =
    if is_quantity kw then result_and_then (number_made n) (λ number. Ok (record { cents = p.cents; kw = unsigned_abs kw; number = number }))
    else Err Quantity
