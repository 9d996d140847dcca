use Rattle.std.proofs.Common.{length, ◌-◌}
use Rattle.ladders.proofs.Moved.{TurnedTo}
use Rattle.ladders.proofs.moves.first_to_last.Given as goal

abbrev pub invariant-loop-items : goal.invariant-loop-items
invariant-loop-items g l = TurnedTo l.fn.items l.place l.items

abbrev pub decreases-loop-items : goal.decreases-loop-items
decreases-loop-items g l = length l.initial.items - l.place
