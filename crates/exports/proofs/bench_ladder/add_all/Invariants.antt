use Rattle.std.proofs.Common.{List}
use Rattle.ladders.specs.Ladders.{Leads, items_in}
use Rattle.ladders.specs.Runs.{Event}
use Rattle.bids.specs.Merit.{up_order}
use Rattle.bids.specs.declared.kinds.TheConstants.{MOST_BIDS}
use Rattle.bids.specs.declared.kinds.UpBid.{UpBid}
use Rattle.exports.proofs.Laddering.{AddedTo}
use Rattle.exports.proofs.bench_ladder.add_all.Given as goal

abbrev pub invariant-loop-place : goal.invariant-loop-place
invariant-loop-place l = record {
  run : (h : List (Event UpBid)) × Leads up_order MOST_BIDS MOST_BIDS h l.ladder;
  added : AddedTo l.fn.bids l.fn.ranks (items_in l.ladder) l.ranks l.place l.added;
}
