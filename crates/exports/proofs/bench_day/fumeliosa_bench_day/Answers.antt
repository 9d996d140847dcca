use Rattle.std.proofs.Common.{true, subst, sym}
use Rattle.exports.specs.BenchDays.{Buffers, DayOf}
use Rattle.exports.proofs.Days.{Steps, as_settled}
use Rattle.exports.proofs.bench_day.fumeliosa_bench_day.Goals as goal

pub returns : goal.returns
returns c =
    let before : Buffers = record { first = c.args.first.now; second = c.args.second.now } in
    let after : Buffers = record { first = c.settle_all.new.payments; second = c.settle_all-2.new.payments } in
    let n = c.price_all-priced.result in
    let steps : Steps c.args.sheets.now c.args.ends.now c.args.parties before after n = record {
      started = c.in-Ok.book;
      quoted = c.price_all-priced.new.book;
      measured = c.meter_all.new.book;
      paid = c.settle_all.new.book;
      corrected = c.meter.new.book;
      answer = c.meter.result;
      begins = c.in-Ok.ensures.started;
      prices = c.price_all-priced.ensures.quarters;
      parties = c.price_all-priced.ensures.parties;
      counts = c.price_all-priced.ensures.counts;
      many = c.price_all-priced.ensures.priced;
      all = c.meter_all.ensures;
      first = c.settle_all.ensures.payments;
      settled = c.settle_all.ensures.book;
      late = c.meter.ensures;
      second = c.settle_all-2.ensures.payments;
    } in
    subst (λ f. DayOf f c.args.sheets.now c.args.ends.now c.args.parties before after (record { started = true; refusal = 0; place = 0; priced = n }))
    (sym c.in-Ok.ensures.started.counts)
    (as_settled c.args.sheets.now c.args.ends.now c.args.parties before after n steps)
