use Rattle.std.proofs.Common.{rules, ◌≡◌, ◌+◌, true, IfSome, sym, ap, subst, arith}
use Rattle.words.specs.Inputs.{IsNextLine}
use Rattle.quarter_text.specs.Readers.{HasWordOf, accepted}
use Rattle.quarter_text.proofs.InputSteps.{Stands, hand_refused, stands_first, stands_next, stands_refused}
use Rattle.quarter_text.proofs.input.read_quarter_from.Goals as goal

pub loop-init : goal.loop-init
loop-init g c = (stands_first (g.B.Read.remaining c.args.input.now) c.new-reader.result c.new-reader.ensures.no_line_read, ap accepted c.new-reader.ensures.no_line_read.0)

pub returns-in-Err : goal.returns-in-Err
returns-in-Err g c =
    let left = g.B.Read.remaining c.next_line.new.input in
    let next = subst (λ l. IsNextLine (g.B.Read.remaining c.loop.input) l c.in_ok-more.more left) (sym c.as_slice.ensures.value) c.in_ok-more.ensures in
    let given = stands_next (g.B.Read.remaining c.args.input.now) (g.B.Read.remaining c.loop.input) left c.loop.reader c.line.new.self c.loop.counter c.as_slice.result.now c.in_ok-more.more c.loop.invariant.0 next c.line.ensures.goes_on (omega (arith, c.loop-test.true)) in
    let word = hand_refused (g.B.Read.remaining c.args.input.now) (g.B.Read.remaining c.loop.input) left c.loop.reader c.line.new.self c.loop.counter c.as_slice.result.now c.in_ok-more.more c.in-Err.fault c.loop.invariant.0 next c.loop.invariant.1 c.line.ensures.reads c.in-Err.ensures.answers in
    record {
      refused_line = subst (λ l. IfSome (g.B.Read.remaining c.args.input.now) (λ text. HasWordOf l text c.in-Err.fault)) c.as_slice.ensures.value word;
      quarter_of_all = stands_refused (g.B.Read.remaining c.args.input.now) left c.line.new.self (c.loop.counter + 1) c.in_ok-more.more c.in-Err.fault given c.in-Err.ensures.answers;
    }

pub loop-preserved : goal.loop-preserved
loop-preserved g c =
    let left = g.B.Read.remaining c.next_line.new.input in
    let next = subst (λ l. IsNextLine (g.B.Read.remaining c.loop.input) l c.in_ok-more.more left) (sym c.as_slice.ensures.value) c.in_ok-more.ensures in
    let given = stands_next (g.B.Read.remaining c.args.input.now) (g.B.Read.remaining c.loop.input) left c.loop.reader c.line.new.self c.loop.counter c.as_slice.result.now c.in_ok-more.more c.loop.invariant.0 next c.line.ensures.goes_on (omega (arith, c.loop-test.true)) in
    let more : c.in_ok-more.more ≡ true = search rules in
    (subst (Stands (g.B.Read.remaining c.args.input.now) left c.line.new.self (c.loop.counter + 1)) more given, search rules)
