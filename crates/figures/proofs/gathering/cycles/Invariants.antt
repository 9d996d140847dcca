use Rattle.figures.specs.Sides.{ReportedTo}
use Rattle.figures.specs.steps.Tallies.{Tallied}
use Rattle.figures.proofs.gathering.cycles.Given as goal

abbrev pub invariant-loop-slot : goal.invariant-loop-slot
invariant-loop-slot g l =
    let m = (g.S.PriceSource.means l.source).slots in
    Tallied m l.slot l.slot l.tally × ReportedTo m l.slot
