use Rattle.std.proofs.Common.{map}
use Rattle.quarter_text.specs.Readers.{HasRead}
use Rattle.quarter_text.proofs.reading.reader_of.Given as goal

abbrev pub invariant-loop-line : goal.invariant-loop-line
invariant-loop-line l = HasRead l.reader (map (λ b. b.now) l.yielded)
