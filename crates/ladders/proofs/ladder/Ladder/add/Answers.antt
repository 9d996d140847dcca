use Rattle.std.proofs.Common.{rules}
use Rattle.ladders.proofs.EveryRun.{sound_adding}
use Rattle.ladders.proofs.ladder.Ladder.add.Goals as goal

pub returns-clause-sound : goal.returns-clause-sound
returns-clause-sound g c = search (rules, sound_adding)
