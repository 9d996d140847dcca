use Rattle.std.proofs.Common.{◌≡◌, ◌-◌, ◌*◌, ◌≤◌}
use Rattle.source.specs.declared.product.TheConstants.{CYCLES}
use Rattle.quarter_text.specs.Ranges.{weights}
use Rattle.quarter_text.proofs.range.Range.weight.Given as goal

abbrev pub invariant-loop-slot : goal.invariant-loop-slot
invariant-loop-slot l =
    let first = l.fn.self.first in
    (l.weight ≡ weights first (l.slot - first)) × (l.weight ≤ (l.slot - first) * CYCLES) × (l.slot - first ≤ l.weight) × (first ≤ l.slot)
