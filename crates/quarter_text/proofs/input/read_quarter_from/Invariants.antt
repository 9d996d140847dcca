use Rattle.std.proofs.Common.{◌≡◌, true, Ok}
use Rattle.quarter_text.specs.Readers.{accepted, read_so_far}
use Rattle.quarter_text.proofs.InputSteps.{Stands}
use Rattle.quarter_text.proofs.input.read_quarter_from.Given as goal

abbrev pub invariant-loop : goal.invariant-loop
invariant-loop g l = Stands (g.B.Read.remaining l.initial.input) (g.B.Read.remaining l.input) l.reader l.counter true × (accepted (read_so_far l.reader) ≡ Ok tt)
