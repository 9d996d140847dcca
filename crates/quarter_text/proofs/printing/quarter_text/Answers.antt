use Rattle.std.proofs.Common.{sym, ap, ◌∙◌, arith}
use Rattle.std.specs.String.{string_bytes}
use Rattle.quarter_text.specs.Texts.{head_text}
use Rattle.quarter_text.proofs.TextTrips.{reads_back}
use Rattle.quarter_text.proofs.Printed.{none_printed, run_goes_on, run_put}
use Rattle.quarter_text.proofs.printing.quarter_text.Goals as goal
use Rattle.quarter_text.proofs.printing.quarter_text.Goals.{then-ends_run+in_ok-put_run, else-ends_run}

pub loop-last-init : goal.loop-last-init
loop-last-init g c = none_printed c.others-others.result (g.S.PriceSource.means c.args.source.now) _ (rw (← c.zone_net.ensures, ← c.avoided.ensures) c.in_ok-text.ensures.ok)

pub loop-last-preserved : goal.loop-last-preserved
loop-last-preserved g c =
    let m = g.S.PriceSource.means c.args.source.now in
    let k = c.loop-last.last in
    let i = c.loop-last.invariant in
    elim c.if-ends_run.branch [
      | then-ends_run+in_ok-put_run w ↦ let r = run_put c.others-others.result m.slots k c.loop-last.first w.told.result (head_text m.zone.kw m.avoided c.others-others.result) _ _ (sym c.ends_run.ensures ∙ w.if-ends_run.true) (w.told.ensures.as_meant (omega (arith, c.loop-last-test.true))) i.0 i.1 w.in_ok-put_run.ensures in (ap string_bytes w.text-is ∙ r.0, w.first-is ∙ r.1)
      | else-ends_run w ↦ let r = run_goes_on c.others-others.result m.slots k c.loop-last.first (head_text m.zone.kw m.avoided c.others-others.result) _ (sym c.ends_run.ensures ∙ w.if-ends_run.false) i.0 i.1 in (ap string_bytes w.text-is ∙ r.0, w.first-is ∙ r.1)
    ]

pub returns-in_err-put_run-clause-reads_back : goal.returns-in_err-put_run-clause-reads_back
returns-in_err-put_run-clause-reads_back g c = reads_back _

pub returns-clause-reads_back : goal.returns-clause-reads_back
returns-clause-reads_back g c = reads_back _

pub returns-in_err-text-clause-reads_back : goal.returns-in_err-text-clause-reads_back
returns-in_err-text-clause-reads_back g c = reads_back _
