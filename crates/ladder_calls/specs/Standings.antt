-- What stands on the ladders of both directions, what a call over them answers, and what stands then.
use Rattle.std.specs.Prelude.{◌≡◌, ℕ, List, [], min, ℤ, Some, None, Ok, Err, Option, Result}
use Rattle.units.specs.Chains.{result_and_then, result_map_err}
use Rattle.source.specs.declared.direction.Direction.{Direction}
use Rattle.source.specs.declared.direction.Direction.TheVariants.{Up, Down}
use Rattle.bids.specs.Merit.{down_order, up_order}
use Rattle.bids.specs.Numbers.{number_made}
use Rattle.bids.specs.declared.kinds.DownBid.{DownBid}
use Rattle.bids.specs.declared.kinds.TheConstants.{MOST_BIDS}
use Rattle.bids.specs.declared.kinds.UpBid.{UpBid}
use Rattle.bids.specs.declared.row.BidRow.{BidRow}
use Rattle.ladders.specs.Ladders.{IsSoundCall, items_in, places_in}
use Rattle.ladders.specs.Lists.{adding_answer, after_adding, after_withdrawing, withdrawing_answer}
use Rattle.ladders.specs.Orders.{Order}
use Rattle.ladders.specs.Runs.{Event, adding, withdrawing}
use Rattle.ladders.specs.declared.fault.LadderFault.{LadderFault}
use Rattle.ladders.specs.declared.ladder.Ladder.{Ladder}
use Rattle.ladder_calls.specs.Making.{row_of_numbers}
use Rattle.ladder_calls.specs.declared.bid_ladders.BidLadders.{BidLadders}
use Rattle.ladder_calls.specs.declared.bid_ladders.Done.{Done}
use Rattle.ladder_calls.specs.declared.bid_ladders.Done.TheVariants.{Added, Withdrawn}
use Rattle.ladder_calls.specs.declared.call.Call.{Call}
use Rattle.ladder_calls.specs.declared.call.Call.TheVariants.{Add, Withdraw}
use Rattle.ladder_calls.specs.declared.fault.CallFault.{CallFault}
use Rattle.ladder_calls.specs.declared.fault.CallFault.TheVariants as call

-- the bids on each ladder, the first in front, and how many may stand there
pub record Standing : Type 0 where
  pub up : List UpBid
  pub down : List DownBid
  pub up_places : ℕ
  pub down_places : ℕ

-- what stands on the ladders of the code
abbrev pub standing_on : BidLadders → Standing
standing_on l = record { up = items_in l.up; down = items_in l.down; up_places = places_in MOST_BIDS l.up; down_places = places_in MOST_BIDS l.down }

-- no bids on ladders over memories of these lengths
abbrev pub empty : (up down : ℕ) → Standing
empty up down = record { up = []; down = []; up_places = min MOST_BIDS up; down_places = min MOST_BIDS down }

-- a bid as an up bid
abbrev pub up_bid : BidRow → UpBid
up_bid row = record { 0 = row }

-- a bid as a down bid
abbrev pub down_bid : BidRow → DownBid
down_bid row = record { 0 = row }

-- what a ladder answers to an adding, as the answer of the call
abbrev pub added : Direction → BidRow → Result ℕ LadderFault → Result Done CallFault
added d row a = result_and_then (result_map_err a call.Ladder) (λ rank. Ok (Added d row.number rank))

-- what it answers to a withdrawing, likewise
abbrev pub withdrawn : {T : Type 0} → Direction → (T → BidRow) → Result T LadderFault → Result Done CallFault
withdrawn d row_in a = result_and_then (result_map_err a call.Ladder) (λ x. Ok (Withdrawn d (row_in x)))

-- the number of a bid that is to be withdrawn
abbrev pub number_of : ℤ → Result ℕ CallFault
number_of n = result_map_err (number_made n) call.Bid

-- the answer of a call: of its numbers, or else of the ladder of its direction
abbrev pub answer_of : Standing → Call → Result Done CallFault
answer_of s (Add Up x) = result_and_then (row_of_numbers x) (λ row. added Up row (adding_answer up_order s.up_places (up_bid row) s.up))
answer_of s (Add Down x) = result_and_then (row_of_numbers x) (λ row. added Down row (adding_answer down_order s.down_places (down_bid row) s.down))
answer_of s (Withdraw Up n) = result_and_then (number_of n) (λ k. withdrawn Up (λ x. x.0) (withdrawing_answer up_order k s.up))
answer_of s (Withdraw Down n) = result_and_then (number_of n) (λ k. withdrawn Down (λ x. x.0) (withdrawing_answer down_order k s.down))

-- what stands after an adding to a ladder; where the numbers are refused, what stood
abbrev pub after_add : {T : Type 0} → Order T → ℕ → (BidRow → T) → Result BidRow CallFault → List T → List T
after_add o places as_item (Ok row) l = after_adding o (as_item row) (adding_answer o places (as_item row) l) l
after_add o places as_item (Err f) l = l

-- what stands after a withdrawing from it, likewise
abbrev pub after_withdraw : {T : Type 0} → Order T → Result ℕ CallFault → List T → List T
after_withdraw o (Ok k) l = after_withdrawing o k (withdrawing_answer o k l) l
after_withdraw o (Err f) l = l

-- the up bids that stand after a call
abbrev pub up_after : Standing → Call → List UpBid
up_after s (Add Up x) = after_add up_order s.up_places up_bid (row_of_numbers x) s.up
up_after s (Add Down x) = s.up
up_after s (Withdraw Up n) = after_withdraw up_order (number_of n) s.up
up_after s (Withdraw Down n) = s.up

-- the down bids that stand after a call
abbrev pub down_after : Standing → Call → List DownBid
down_after s (Add Up x) = s.down
down_after s (Add Down x) = after_add down_order s.down_places down_bid (row_of_numbers x) s.down
down_after s (Withdraw Up n) = s.down
down_after s (Withdraw Down n) = after_withdraw down_order (number_of n) s.down

-- the adding that comes to a ladder, with its answer; none where the numbers are refused
abbrev pub adding_on : {T : Type 0} → Order T → ℕ → (BidRow → T) → List T → Result BidRow CallFault → Option (Event T)
adding_on o places as_item l (Ok row) = Some (adding (as_item row) (adding_answer o places (as_item row) l))
adding_on o places as_item l (Err f) = None

-- the withdrawing that comes to it, likewise
abbrev pub withdrawing_on : {T : Type 0} → Order T → List T → Result ℕ CallFault → Option (Event T)
withdrawing_on o l (Ok k) = Some (withdrawing k (withdrawing_answer o k l))
withdrawing_on o l (Err f) = None

-- what comes of a call to the ladder of up bids
abbrev pub up_event : Standing → Call → Option (Event UpBid)
up_event s (Add Up x) = adding_on up_order s.up_places up_bid s.up (row_of_numbers x)
up_event s (Add Down x) = None
up_event s (Withdraw Up n) = withdrawing_on up_order s.up (number_of n)
up_event s (Withdraw Down n) = None

-- and to that of down bids
abbrev pub down_event : Standing → Call → Option (Event DownBid)
down_event s (Add Up x) = None
down_event s (Add Down x) = adding_on down_order s.down_places down_bid s.down (row_of_numbers x)
down_event s (Withdraw Up n) = None
down_event s (Withdraw Down n) = withdrawing_on down_order s.down (number_of n)

-- each run that led to the ladder goes on with the call that comes to it, and is sound; without one the ladder is as it was
abbrev pub IsSoundStep : {T : Type 0} {g : _} → Order T → Option (Event T) → Ladder T g → Ladder T g → Type 0
IsSoundStep o (Some e) b b' = IsSoundCall o MOST_BIDS e b b'
IsSoundStep o None b b' = b' ≡ b
