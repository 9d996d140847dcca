use Rattle.std.proofs.Common.{refl, arith, rules}
use Rattle.figures.proofs.Counted.{counts_shown}
use Rattle.figures.proofs.Steps.{first_room, net_room, quarter_given, second_room}
use Rattle.figures.proofs.gathering.figures_of.Goals as goal

pub noting-requires : goal.noting-requires
noting-requires g c = grind (arith, net_room)

pub noting-requires-2 : goal.noting-requires-2
noting-requires-2 g c =
    let m = g.S.PriceSource.means c.args.source.now in
    first_room m c.in_ok-tally.tally c.noting.result _ _
    (record { scheduled = c.in_ok-scheduled.scheduled; direct_up = c.in_ok-direct_up.direct_up; direct_down = c.in_ok-direct_down.direct_down })
    c.in_ok-tally.ensures c.in_ok-scheduled.ensures c.in_ok-direct_up.ensures c.in_ok-direct_down.ensures
    c.noting.ensures refl refl

pub noting-all-requires : goal.noting-all-requires
noting-all-requires g c =
    let m = g.S.PriceSource.means c.args.source.now in
    second_room m c.in_ok-tally.tally c.noting.result c.noting-2.result _
    (record { scheduled = c.in_ok-scheduled.scheduled; direct_up = c.in_ok-direct_up.direct_up; direct_down = c.in_ok-direct_down.direct_down })
    c.in_ok-tally.ensures c.in_ok-scheduled.ensures c.in_ok-direct_up.ensures c.in_ok-direct_down.ensures
    c.noting.ensures c.noting-2.ensures refl

pub invariant_of-result : goal.invariant_of-result
invariant_of-result g c =
    let m = g.S.PriceSource.means c.args.source.now in
    record {
      given = ∣ (
        m,
        quarter_given m c.in_ok-tally.tally c.noting.result c.noting-2.result c.noting-all.result
            (record { scheduled = c.in_ok-scheduled.scheduled; direct_up = c.in_ok-direct_up.direct_up; direct_down = c.in_ok-direct_down.direct_down })
            c.in_ok-tally.ensures c.in_ok-scheduled.ensures c.in_ok-direct_up.ensures c.in_ok-direct_down.ensures
            c.noting.ensures c.noting-2.ensures c.noting-all.ensures _ _ _ _ _ (search rules) c.zone_net.ensures c.avoided.ensures
            c.side.ensures c.side-2.ensures,
      ) ∣₁;
    }

pub returns : goal.returns
returns g c =
    let given =
    quarter_given (g.S.PriceSource.means c.args.source.now) c.in_ok-tally.tally c.noting.result c.noting-2.result c.noting-all.result
    (record { scheduled = c.in_ok-scheduled.scheduled; direct_up = c.in_ok-direct_up.direct_up; direct_down = c.in_ok-direct_down.direct_down })
    c.in_ok-tally.ensures c.in_ok-scheduled.ensures c.in_ok-direct_up.ensures c.in_ok-direct_down.ensures
    c.noting.ensures c.noting-2.ensures c.noting-all.ensures _ _ _ _ _ (search rules) c.zone_net.ensures c.avoided.ensures
    c.side.ensures c.side-2.ensures in
    record { figures_of_the_source = given; volume_where_counting = counts_shown (g.S.PriceSource.means c.args.source.now) _ given }
