use Rattle.std.proofs.Common.{◌+◌, sym, subst, arith, below_none, below_more}
use Rattle.source.specs.declared.direction.Direction.TheVariants.{Up, Down}
use Rattle.figures.specs.Sides.{formed_to}
use Rattle.figures.specs.steps.Tallies.{Tallied}
use Rattle.figures.proofs.Steps.{blank_tallied, cycles_room, cycle_tallied, is_reported, net_room}
use Rattle.figures.proofs.gathering.cycles.Goals as goal

pub loop-slot-init : goal.loop-slot-init
loop-slot-init g c =
    let m = (g.S.PriceSource.means c.args.source.now).slots in
    (subst (Tallied m 0 0) (sym c.blank-tally.ensures) (blank_tallied m), below_none _)

pub with-tally-requires : goal.with-tally-requires
with-tally-requires g c =
    let m = (g.S.PriceSource.means c.args.source.now).slots in
    let k = c.loop-slot.slot in
    record {
      net = grind (arith, net_room);
      up = cycles_room Up m k _ (formed_to Up m k) (omega arith) c.loop-slot.invariant.0.ups;
      down = cycles_room Down m k _ (formed_to Down m k) (omega arith) c.loop-slot.invariant.0.downs;
    }

pub loop-slot-preserved : goal.loop-slot-preserved
loop-slot-preserved g c =
    let m = (g.S.PriceSource.means c.args.source.now).slots in
    let k = c.loop-slot.slot in
    let w = c.in_ok-cycle.cycle in
    let is = c.in_ok-cycle.ensures in (
      subst (Tallied m (k + 1) (k + 1)) (sym c.with-tally.ensures) (cycle_tallied m k w is c.loop-slot.tally c.loop-slot.invariant.0),
      below_more _ _ c.loop-slot.invariant.1 (is_reported m k w is),
    )
