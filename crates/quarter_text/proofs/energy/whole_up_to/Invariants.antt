use Rattle.std.proofs.Common.{◌≡◌, ◌≤◌}
use Rattle.quarter_text.specs.Lines.{whole_up_to}
use Rattle.quarter_text.proofs.energy.whole_up_to.Given as goal

abbrev pub invariant-loop-kwh : goal.invariant-loop-kwh
invariant-loop-kwh l = (whole_up_to l.fn.weight l.fn.most ≡ whole_up_to l.fn.weight l.kwh) × (l.kwh ≤ l.fn.most)

abbrev pub decreases-loop-kwh : goal.decreases-loop-kwh
decreases-loop-kwh l = l.kwh
