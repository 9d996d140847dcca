-- What the private functions of the gathering answer.
use Rattle.std.specs.Prelude.{◌≡◌, ℕ, Ok, Err, Result, Some, None}
use Rattle.source.specs.Products.{weight}
use Rattle.source.specs.declared.direction.Direction.{Direction}
use Rattle.source.specs.declared.product.TheConstants.{CYCLES}
use Rattle.figures.specs.Gathering.{FirstUnreported}
use Rattle.figures.specs.Sides.{ReportedTo, Slots}
use Rattle.figures.specs.steps.Spans.{span_between}
use Rattle.figures.specs.steps.Tallies.{Tallied, cycles_of, manual}
use Rattle.figures.specs.declared.fault.UnreportedSlot.{UnreportedSlot}
use Rattle.figures.specs.declared.gathering.ManualSlots.{ManualSlots}
use Rattle.figures.specs.declared.side.Side.{Side}
use Rattle.figures.specs.declared.tally.DirectionTally.{DirectionTally}
use Rattle.figures.specs.declared.tally.Tally.{Tally}
use Rattle.figures.specs.declared.weighed.Weighed.{Weighed}

-- the slot k with its weight, or that it is not reported
abbrev pub IsSlotOrUnreported : Slots → ℕ → Result Weighed UnreportedSlot → Type 0
IsSlotOrUnreported m k (Ok w) = (m k ≡ Some w.reading) × (w.weight ≡ weight k)
IsSlotOrUnreported m k (Err e) = (e.slot ≡ k) × (m k ≡ None)

-- the tally of the cycles, or the first that is not reported
abbrev pub AreCyclesOrUnreported : Slots → Result Tally UnreportedSlot → Type 0
AreCyclesOrUnreported m (Ok t) = Tallied m CYCLES CYCLES t × ReportedTo m CYCLES
AreCyclesOrUnreported m (Err e) = FirstUnreported m e.slot

-- a direction's figures, of its cycles, its formed prices and the manual slots
abbrev pub side_from : Direction → DirectionTally → ManualSlots → Side
side_from d t s = record {
  cycles = cycles_of t;
  scheduled = manual d s.scheduled;
  direct_up = manual d s.direct_up;
  direct_down = manual d s.direct_down;
  formed = span_between t.lowest_formed t.highest_formed;
}
