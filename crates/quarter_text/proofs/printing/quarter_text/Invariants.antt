use Rattle.std.proofs.Common.{◌≡◌, ◌++◌}
use Rattle.std.specs.String.{string_bytes}
use Rattle.quarter_text.specs.Texts.{head_text, lines_to, run_start}
use Rattle.quarter_text.proofs.printing.quarter_text.Given as goal

abbrev pub invariant-loop-last : goal.invariant-loop-last
invariant-loop-last g l =
    let m = g.S.PriceSource.means l.source in
    (string_bytes l.text ≡ head_text m.zone.kw m.avoided l.others ++ lines_to l.others m.slots l.last) × (l.first ≡ run_start m.slots l.last)
