use Rattle.std.proofs.Common.{◌+◌, ◌-◌, sym, ap, ◌∙◌, arith}
use Rattle.quarter_text.specs.Steps.{left}
use Rattle.quarter_text.proofs.Named.{named_twice}
use Rattle.quarter_text.proofs.draft.name_slots.Goals as goal

pub returns-then-is_some : goal.returns-then-is_some
returns-then-is_some c =
    let n = named_twice c.args.named.now c.loop-slot.named c.args.lines.now c.args.range.first c.loop-slot.slot (c.args.range.last + 1 - c.args.range.first) c.args.told c.index-named-slot.result c.loop-slot.invariant.1 c.loop-slot.invariant.0 (sym c.if-is_some.true ∙ c.is_some.ensures) (omega (arith, c.loop-slot.invariant.2, c.loop-slot-test.true, c.requires)) (omega (arith, c.loop-slot-test.true, c.requires)) in
    ap (λ r. left r c.loop-slot.named) c.at_word.ensures ∙ sym n
