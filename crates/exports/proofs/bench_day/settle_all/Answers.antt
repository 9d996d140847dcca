use Rattle.std.proofs.lemmas.List.{set-get_or}
use Rattle.std.proofs.Common.{rules, ◌≡◌, set, arith}
use Rattle.exports.proofs.Settling.{accepted, all_placed, refused}
use Rattle.exports.proofs.bench_day.settle_all.Goals as goal
use Rattle.exports.proofs.bench_day.settle_all.Goals.{in-Ok, in_default}

pub loop-party-preserved : goal.loop-party-preserved
loop-party-preserved c =
    elim c.match-settle.branch [
      | in-Ok w ↦
          let e : c.match-settle.payments ≡ set c.loop-party.payments c.loop-party.party w.in-Ok.paid.cents = search rules in
          rw e (accepted c.args.book.now c.loop-party.book c.settle.new.self c.args.payments.now c.loop-party.payments c.loop-party.party w.in-Ok.paid (omega arith) c.loop-party.invariant w.in-Ok.ensures)
      | in_default w ↦
          rw (w.payments-is, set-get_or) (refused c.args.book.now c.loop-party.book c.settle.new.self c.args.payments.now c.loop-party.payments c.loop-party.party w.in_default.field-0 c.loop-party.invariant w.in_default.ensures)
    ]

pub returns-clause-payments : goal.returns-clause-payments
returns-clause-payments c = all_placed c.args.book.now c.loop-party.book c.args.payments.now c.loop-party.payments c.loop-party.party (omega arith) c.loop-party.invariant
