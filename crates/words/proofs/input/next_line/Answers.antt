use Rattle.words.proofs.NextLines.{next_of}
use Rattle.words.proofs.input.next_line.Goals as goal

pub returns : goal.returns
returns g c = next_of _ _ _ _ _ _ c.clear.ensures.items c.in_ok-read_until.ensures.bytes c.in_ok-read_until.ensures.rest c.cut_line_end.ensures.ended c.cut_line_end.ensures.cut
