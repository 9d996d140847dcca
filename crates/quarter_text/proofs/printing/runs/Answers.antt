use Rattle.std.proofs.Common.{arith}
use Rattle.quarter_text.proofs.Printed.{all_counted}
use Rattle.quarter_text.proofs.printing.runs.Goals as goal

pub returns-clause-counted : goal.returns-clause-counted
returns-clause-counted g c = all_counted _ _ _ _ (omega (arith, c.loop-last-test.false, c.loop-last.auto)) c.loop-last.invariant.0
