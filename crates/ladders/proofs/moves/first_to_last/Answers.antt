use Rattle.std.proofs.Common.{arith}
use Rattle.ladders.proofs.Moved.{all_turned, not_turned, turned_on}
use Rattle.ladders.proofs.moves.first_to_last.Goals as goal

pub loop-items-init : goal.loop-items-init
loop-items-init g c = not_turned c.args.items.now

pub loop-items-preserved : goal.loop-items-preserved
loop-items-preserved g c =
    turned_on c.args.items.now c.loop-items.place c.min-part.result _ c.loop-items.items c.rotate_left.new.self (omega arith) (omega (arith, c.min-part.ensures)) (omega (arith, c.min-part.ensures, c.loop-items.auto.items)) c.loop-items.invariant c.rotate_left.ensures.after

pub returns : goal.returns
returns g c = all_turned c.args.items.now c.loop-items.place c.loop-items.items (omega arith) c.loop-items.invariant
