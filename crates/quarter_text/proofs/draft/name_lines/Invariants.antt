use Rattle.std.proofs.Common.{◌≡◌, ◌-◌, ◌≤◌, length}
use Rattle.source.specs.declared.slot.TheConstants.{SLOTS}
use Rattle.quarter_text.specs.Drafts.{name_lines}
use Rattle.quarter_text.proofs.draft.name_lines.Given as goal

abbrev pub invariant-loop-slot : goal.invariant-loop-slot
invariant-loop-slot l =
    (l.lines ≡ name_lines l.initial.lines l.fn.range.first (l.slot - l.fn.range.first) l.line) × (l.fn.range.first ≤ l.slot) × (length l.lines ≡ SLOTS)
