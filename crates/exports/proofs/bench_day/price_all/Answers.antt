use Rattle.std.proofs.Common.{◌≡◌, ◌<◌, ◌+◌, cond, get_or, length, is_ok, arith, refl, ap, ◌∙◌, rules, subst, leb, []}
use Rattle.std.specs.List.{slice_range}
use Rattle.settlement.specs.Events.{pricing}
use Rattle.settlement.specs.Promises.{IsSoundCall}
use Rattle.pricing.specs.declared.ruling.Net.TheVariants.{Zone}
use Rattle.sheet.specs.Sheets.{sheet_meaning}
use Rattle.exports.specs.BenchDays.{sheet_at}
use Rattle.exports.proofs.Pricing.{all_counted, all_priced, by_finnish, none_priced, one_more, part_read, priced_one}
use Rattle.exports.proofs.bench_day.price_all.Goals as goal
use Rattle.exports.proofs.bench_day.price_all.Goals.{then-is_ok, else-is_ok}

pub loop-period-init : goal.loop-period-init
loop-period-init c = none_priced c.args.sheets.now c.args.ends.now c.args.book.now c.requires.fresh c.requires.count

pub overflow_add-priced : goal.overflow_add-priced
overflow_add-priced c = let few = c.loop-period.invariant.few in omega arith

pub loop-period-preserved : goal.loop-period-preserved
loop-period-preserved c =
    let i = c.loop-period.period in
    let b = c.loop-period.book in
    let t = c.loop-period.invariant in
    let end = get_or c.args.ends.now i 0 in
    let sheet : c.read-sheet.result.bytes.now ≡ sheet_at c.args.sheets.now c.args.ends.now i =
    c.read-sheet.ensures ∙ ap (λ r. r.now) c.unwrap_or.ensures
    ∙ part_read c.args.sheets.now c.loop-period.start end c.get.result _ refl c.get.ensures.lookup
    ∙ ap (λ s. cond (leb end (length c.args.sheets.now)) (slice_range c.args.sheets.now s end) []) t.begins in
    let within : i < b.period_count = omega (arith, t.count, c.loop-period-test.true) in
    let more : c.if-is_ok.priced ≡ c.loop-period.priced + cond (is_ok c.price.result) 1 0 =
    elim c.if-is_ok.branch as (λ v. c.if-is_ok.priced ≡ c.loop-period.priced + cond (is_ok c.price.result) 1 0) [ then-is_ok w ↦ search rules | else-is_ok w ↦ search rules ] in
    let start : c.if-is_ok.start ≡ end = search rules in
    one_more c.args.sheets.now c.args.ends.now c.args.book.now b c.price.new.self i c.loop-period.priced c.if-is_ok.priced c.loop-period.start c.if-is_ok.start c.price.result start more t
    (priced_one b c.price.new.self i (sheet_at c.args.sheets.now c.args.ends.now i) Zone c.price.result within (t.blank i (omega arith))
    (subst (λ s. IsSoundCall (pricing i (sheet_meaning s) (by_finnish Zone) c.price.result) b c.price.new.self) sheet c.price.ensures))

pub returns-clause-quarters : goal.returns-clause-quarters
returns-clause-quarters c = all_priced c.args.sheets.now c.args.ends.now c.args.book.now c.loop-period.book c.loop-period.period c.loop-period.priced c.loop-period.start (omega arith) (omega arith) c.loop-period.invariant

pub returns-clause-priced : goal.returns-clause-priced
returns-clause-priced c = all_counted c.args.sheets.now c.args.ends.now c.args.book.now c.loop-period.book c.loop-period.period c.loop-period.priced c.loop-period.start (omega arith) c.loop-period.invariant
