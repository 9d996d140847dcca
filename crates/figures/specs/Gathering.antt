-- Whether a source gives figures, and which.
use Rattle.std.specs.Prelude.{◌≡◌, ℕ, ◌<◌, ◌≤◌, ◌↔◌, IfOk, Ok, Err, Result, None}
use Rattle.source.specs.Meanings.{Meaning}
use Rattle.source.specs.declared.direction.Direction.{Direction}
use Rattle.source.specs.declared.slot.TheConstants.{SLOTS}
use Rattle.figures.specs.Components.{side_in, volume}
use Rattle.figures.specs.Counting.{Counts}
use Rattle.figures.specs.Sides.{ReportedTo, Slots, SourceGives}
use Rattle.figures.specs.declared.fault.UnreportedSlot.{UnreportedSlot}
use Rattle.figures.specs.declared.quarter_figures.Figures.{Figures}

-- these are the figures of what a source means
abbrev pub AreFiguresOf : Meaning → Figures → Type 0
AreFiguresOf m f = SourceGives m f.local_net f.zone_net f.avoided f.up f.down

-- k is the first slot that is not reported
pub record FirstUnreported (m : Slots) (k : ℕ) : Type 0 where
  pub within : k < SLOTS
  pub here : m k ≡ None
  pub before : ReportedTo m k

-- the figures of a source, or its first slot that is not reported
abbrev pub AreFiguresOrUnreported : Meaning → Result Figures UnreportedSlot → Type 0
AreFiguresOrUnreported m (Ok f) = AreFiguresOf m f
AreFiguresOrUnreported m (Err e) = FirstUnreported m.slots e.slot

-- some slot of the quarter counts in a direction
abbrev pub SomeCounts : Direction → Slots → Type 0
SomeCounts d m = (k : ℕ) × (k < SLOTS) × Counts d (m k)

-- V is above 0 in a direction exactly where some slot counts in it
abbrev pub VolumeShowsCounting : Slots → Result Figures UnreportedSlot → Type 0
VolumeShowsCounting m r = IfOk r (λ f. (d : Direction) → (1 ≤ volume (side_in d f)) ↔ SomeCounts d m)
