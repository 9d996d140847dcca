use Rattle.std.proofs.Common.{◌≡◌, ◌-◌}
use Rattle.quarter_text.specs.Lines.{whole_after}
use Rattle.quarter_text.proofs.energy.whole_after.Given as goal

abbrev pub invariant-loop-past : goal.invariant-loop-past
invariant-loop-past l = whole_after l.fn.weight l.fn.kwh (l.fn.most - l.fn.kwh) ≡ whole_after l.fn.weight l.past (l.fn.most - l.past)
