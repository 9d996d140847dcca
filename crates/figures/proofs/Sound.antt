-- What holds of the figures of a direction, whatever slots give them.
use Rattle.std.proofs.Common.{◌≡◌, ℕ, ◌≤◌, true, ℤ, pos, ◌*ℤ◌, ◌≤ℤ◌, is_some, Option}
use denote.Struct.Props.{props}
use Rattle.figures.specs.steps.Bounds.{most_volume}
use Rattle.figures.specs.Spans.{lowest_cents, highest_cents}
use Rattle.figures.specs.Components.{cents_of}
use Rattle.figures.specs.declared.side.Manual.{Manual}
use Rattle.figures.specs.declared.side.Side.{Side}
use Rattle.figures.specs.declared.side.Totals.{Totals}
use Rattle.figures.specs.declared.span.Span.{Span}

-- prices are formed, and z lies between the least and the greatest
abbrev pub Between : Option Span → ℤ → Type 0
Between f z = (is_some f ≡ true) × (lowest_cents f ≤ℤ z) × (z ≤ℤ highest_cents f)

-- V = v is at most `most`; counting cycles have prices, formed ones, and S / V = x / v lies between them
abbrev pub CyclesAre : ℕ → Option Span → ℕ → ℤ → Option Span → Type 0
CyclesAre most f v x o =
    (v ≤ most) × (1 ≤ v → is_some o ≡ true)
    × (is_some o ≡ true → Between f (lowest_cents o) × Between f (highest_cents o))
    × ((lowest_cents o *ℤ pos v) ≤ℤ x) × (x ≤ℤ (highest_cents o *ℤ pos v))

abbrev pub CyclesSound : ℕ → Option Span → Totals → Type 0
CyclesSound most f c = CyclesAre most f c.volume c.turnover c.span

-- a manual slot of the greatest demand; where it counts it has a price, and a price is formed
abbrev pub ManualSound : Option Span → Manual → Type 0
ManualSound f m = (m.volume ≤ most_volume) × (1 ≤ m.volume → is_some m.price ≡ true) × (is_some m.price ≡ true → Between f (cents_of m.price))

abbrev pub Sound : Side → Type 0
Sound s =
    CyclesSound most_volume s.formed s.cycles × ManualSound s.formed s.scheduled
    × ManualSound s.formed s.direct_up × ManualSound s.formed s.direct_down

pub sound_prop : (s : Side) → IsProp (Sound s)
sound_prop s = hlevel props
