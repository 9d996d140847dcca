use Rattle.std.proofs.Common.{rules, ◌==◌, Err, ap, ◌∙◌, sym, subst, arith}
use Rattle.std.proofs.lemmas.Iterator.Consumers.{YieldsList-at}
use Rattle.std.proofs.lemmas.Iterator.Splits.{YieldsList-from_slice_split}
use Rattle.std.proofs.lemmas.Result.{err_from_is_err_and}
use borrow.Author.Tests.{tests}
use Rattle.words.specs.Words.{lines_of}
use Rattle.quarter_text.specs.Readers.{HasRead}
use Rattle.quarter_text.specs.Steps.{ReadsAll}
use Rattle.quarter_text.proofs.LineSteps.{all_given, lines_few, refused_given}
use Rattle.quarter_text.proofs.reading.reader_of.Goals as goal

pub returns : goal.returns
returns c =
    subst (HasRead c.loop-line.reader)
    (all_given c.loop-line.line-iterator c.next.new.self c.loop-line.yielded _ c.loop-line.yielded_by c.next.ensures.steps (lines_of c.args.text.now) c.in-None.is
    (YieldsList-at c.into_iter-line-iterator.ensures.into_iter_gives
    (YieldsList-from_slice_split _ (λ b. b == 10) c.args.text.now c.split-line-items.ensures.rest c.split-line-items.ensures.done c.split-line-items.ensures.closure (λ x b q k. search (rules, tests)))))
    c.loop-line.invariant

pub returns-in_err-line : goal.returns-in_err-line
returns-in_err-line c =
    let p = err_from_is_err_and c.from_residual.result c.from_residual.ensures.1 in
    let q = refused_given c.loop-line.line-iterator c.next.new.self c.loop-line.yielded _ c.loop-line.yielded_by c.next.ensures.steps (lines_of c.args.text.now) c.in-Some.line c.in-Some.is c.loop-line.reader c.line.new.self c.line.ensures.goes_on c.loop-line.invariant
    c.in_err-line.field-0.0 c.in_err-line.ensures.answers (omega (arith, lines_few c.args.text.now))
    (YieldsList-at c.into_iter-line-iterator.ensures.into_iter_gives
    (YieldsList-from_slice_split _ (λ b. b == 10) c.args.text.now c.split-line-items.ensures.rest c.split-line-items.ensures.done c.split-line-items.ensures.closure (λ x b q k. search (rules, tests)))) in
    subst (ReadsAll c.args.text.now) (sym (p.1 ∙ ap Err p.2)) q
