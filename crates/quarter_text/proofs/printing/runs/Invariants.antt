use Rattle.std.proofs.Common.{◌≡◌, ◌≤◌}
use Rattle.quarter_text.specs.Texts.{runs_to}
use Rattle.quarter_text.proofs.printing.runs.Given as goal

abbrev pub invariant-loop-last : goal.invariant-loop-last
invariant-loop-last g l = (l.runs ≡ runs_to (g.S.PriceSource.means l.source).slots l.slot l.last) × (l.runs ≤ l.last)
