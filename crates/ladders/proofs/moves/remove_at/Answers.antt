use Rattle.ladders.proofs.Moved.{moved_down}
use Rattle.ladders.proofs.moves.remove_at.Goals as goal

pub returns : goal.returns
returns g c = moved_down c.args.memory.now c.args.count c.args.at c.index-memory-count.result c.first_to_last.new.items c.requires.room c.requires.within c.index-memory-count.is c.first_to_last.ensures
