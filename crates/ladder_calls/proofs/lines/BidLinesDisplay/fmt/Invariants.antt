use Rattle.std.proofs.Common.{flat_map, take}
use Rattle.std.specs.Fmt.{HasWritten, IsPlainFormatter}
use Rattle.ladder_calls.specs.Texts.{bid_line}
use Rattle.ladder_calls.proofs.lines.BidLinesDisplay.fmt.Given as goal

-- the lines of the bids so far are written
abbrev pub invariant-loop-bid : goal.invariant-loop-bid
invariant-loop-bid g l = IsPlainFormatter l.initial.f → HasWritten g.W.Write.write_str_gives l.initial.f (flat_map (λ y. bid_line g.T.OneSided.DIRECTION (g.T.OneSided.row_of y)) (take l.bid-index l.bid-items)) l.f
