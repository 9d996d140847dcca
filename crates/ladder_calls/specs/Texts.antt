-- What is printed of a call's answer, and of what stands on the ladders.
use Rattle.std.specs.Prelude.{ℕ, List, [], ◌∷◌, ◌++◌, Ok, Err, Result, codes, decimal, flat_map}
use Rattle.units.specs.Text.{euros}
use Rattle.source.specs.declared.direction.Direction.{Direction}
use Rattle.source.specs.declared.direction.Direction.TheVariants.{Up, Down}
use Rattle.words.specs.Marks.{line_end, space}
use Rattle.bids.specs.declared.row.BidRow.{BidRow}
use Rattle.ladder_calls.specs.Refusals.{call_number, call_place}
use Rattle.ladder_calls.specs.Standings.{standing_on}
use Rattle.ladder_calls.specs.declared.bid_ladders.BidLadders.{BidLadders}
use Rattle.ladder_calls.specs.declared.bid_ladders.Done.{Done}
use Rattle.ladder_calls.specs.declared.bid_ladders.Done.TheVariants.{Added, Withdrawn}
use Rattle.ladder_calls.specs.declared.fault.CallFault.{CallFault}

-- the word of a direction
abbrev pub direction_text : Direction → List ℕ
direction_text Up = codes "up"
direction_text Down = codes "down"

-- a bid of a direction: the direction, the price in euros, the quantity in kW, the number
abbrev pub bid_text : Direction → BidRow → List ℕ
bid_text d row = direction_text d ++ (space ∷ (euros row.cents ++ (space ∷ (decimal row.kw ++ (space ∷ decimal row.number)))))

-- the line of a call's answer: what was added and its rank, what was withdrawn, or !, the number and the place of the refusal
abbrev pub answer_text : Result Done CallFault → List ℕ
answer_text (Ok (Added d number rank)) = codes "added " ++ (direction_text d ++ (space ∷ (decimal number ++ (codes " at " ++ (decimal rank ++ (line_end ∷ []))))))
answer_text (Ok (Withdrawn d row)) = codes "withdrawn " ++ (bid_text d row ++ (line_end ∷ []))
answer_text (Err f) = codes "! " ++ (decimal (call_number f) ++ (space ∷ (decimal (call_place f) ++ (line_end ∷ []))))

-- the line of a bid that stands
abbrev pub bid_line : Direction → BidRow → List ℕ
bid_line d row = bid_text d row ++ (line_end ∷ [])

-- a line for each bid that stands: the up bids, then the down bids, of each the first in front
abbrev pub ladders_text : BidLadders → List ℕ
ladders_text l = flat_map (λ x. bid_line Up x.0) (standing_on l).up ++ flat_map (λ x. bid_line Down x.0) (standing_on l).down
