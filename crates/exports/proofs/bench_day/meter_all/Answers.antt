use Rattle.std.proofs.Common.{◌≡◌, false, ◌<◌, arith, get_or, pos, ap, ◌∙◌}
use Rattle.settlement.specs.Books.{quarter_at}
use Rattle.settlement.specs.Standings.{is_closed}
use Rattle.settlement.specs.declared.quarter.Quarter.TheVariants.{Blank}
use Rattle.exports.proofs.Metering.{next_period, one_more, took}
use Rattle.exports.proofs.bench_day.meter_all.Goals as goal

pub loop-party-preserved : goal.loop-party-preserved
loop-party-preserved c =
    let k = c.args.book.now in
    let b = c.loop-party.book in
    let m = c.loop-party.invariant in
    let within : c.loop-period.period < k.period_count = omega (arith, c.requires.periods, c.loop-period-test.true) in
    let unclosed : is_closed (quarter_at b c.loop-period.period) ≡ false = ap (λ qs. is_closed (get_or qs c.loop-period.period Blank)) m.quarters ∙ c.requires.open c.loop-period.period within in
    one_more k b c.meter.new.book c.loop-period.period c.loop-party.party m
    (took b c.meter.new.book c.loop-period.period c.loop-party.party (pos 0) c.meter.result
    (omega (arith, m.counts.0, within)) (omega (arith, m.counts.1, c.requires.parties, c.loop-party-test.true)) (omega arith) unclosed c.meter.ensures)

pub loop-period-preserved : goal.loop-period-preserved
loop-period-preserved c = next_period c.args.book.now c.loop-party.book c.loop-period.period c.loop-party.party (omega arith) c.loop-party.invariant
