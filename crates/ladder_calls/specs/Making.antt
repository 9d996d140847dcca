-- A bid of the numbers of a line.
use Rattle.std.specs.Prelude.{Ok, Result}
use Rattle.units.specs.Chains.{result_and_then, result_map_err}
use Rattle.units.specs.Quantities.{price_of}
use Rattle.bids.specs.Bids.{row_made, row_of}
use Rattle.bids.specs.declared.bid.Bid.{Bid}
use Rattle.bids.specs.declared.row.BidRow.{BidRow}
use Rattle.ladder_calls.specs.declared.call.BidNumbers.{BidNumbers}
use Rattle.ladder_calls.specs.declared.fault.CallFault.{CallFault}
use Rattle.ladder_calls.specs.declared.fault.CallFault.TheVariants.{Price}
use Rattle.ladder_calls.specs.declared.fault.CallFault.TheVariants as call

-- the bid of these numbers, as a ladder's memory holds it; its price is judged first, then its quantity, then its number
abbrev pub row_of_numbers : BidNumbers → Result BidRow CallFault
row_of_numbers x = result_and_then (result_map_err (price_of x.cents) Price) (λ p. result_map_err (row_made p x.kw x.number) call.Bid)

-- a bid of the code, as a ladder's memory holds it
abbrev pub as_made : Result Bid CallFault → Result BidRow CallFault
as_made x = result_and_then x (λ b. Ok (row_of b))
