use Rattle.std.proofs.Common.{◌+◌, ◌-◌, ◌^◌, length, length-drop, sym, ap, ◌∙◌, Some, arith}
use Rattle.words.proofs.Capped.{all_left, capped, decimals_read}
use Rattle.words.specs.Numerals.{digits}
use Rattle.words.proofs.decimal.unsigned_numeral.Goals as goal

pub returns-clause-reads : goal.returns-clause-reads
returns-clause-reads c =
    let k = c.in-Some.point + 1 in
    let rest = all_left c.args.word.now k in
    let long = length-drop k c.args.word.now in
    ap Some c.min-2.ensures
    ∙ decimals_read c.args.places c.in-Some.point c.args.word.now c.in_ok-whole.whole c.in_ok-rest.field-0 c.power_of_ten-unit.result c.power_of_ten.result
    (sym c.in-Some.ensures.place) (omega (arith, c.if-decimals-places.false, long)) c.in_ok-whole.ensures.reads (c.in_ok-rest.ensures.reads ∙ ap (λ w. capped (digits w)) rest) c.power_of_ten-unit.ensures.power (c.power_of_ten.ensures.power ∙ ap (λ w. 10 ^ (c.args.places - length w)) rest) c.power_of_ten-unit.ensures.low c.power_of_ten.ensures.low
