use Rattle.std.proofs.Common.{◌≡◌, ◌-◌, ◌≤◌, length, Ok}
use Rattle.source.specs.declared.slot.TheConstants.{SLOTS}
use Rattle.quarter_text.specs.Drafts.{name_slots}
use Rattle.quarter_text.proofs.draft.name_slots.Given as goal

abbrev pub invariant-loop-slot : goal.invariant-loop-slot
invariant-loop-slot l =
    (name_slots l.initial.named l.lines l.fn.range.first (l.slot - l.fn.range.first) l.fn.told ≡ Ok l.named) × (l.fn.range.first ≤ l.slot) × (length l.named ≡ SLOTS)
