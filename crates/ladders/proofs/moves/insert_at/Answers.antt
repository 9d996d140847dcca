use Rattle.ladders.proofs.Moved.{moved_up}
use Rattle.ladders.proofs.moves.insert_at.Goals as goal

pub returns : goal.returns
returns g c = moved_up c.args.memory.now c.args.count c.args.at c.args.item c.rotate_right.new.self c.requires.room c.requires.within c.rotate_right.ensures.after
