-- What every value of the figures' type has, since some slots give it.
use mathlib.Core.Logic.{∥∥₁_elim}
use Rattle.std.proofs.Common.{◌≡◌, ◌*◌, ◌≤◌, nat_abs, sym, subst}
use Rattle.source.specs.declared.direction.Direction.{Direction}
use Rattle.source.specs.declared.direction.Direction.TheVariants.{Up, Down}
use Rattle.units.specs.declared.bounds.TheConstants.{MOST_CENTS}
use Rattle.figures.specs.steps.Bounds.{most_volume}
use Rattle.figures.specs.Components.{side_in}
use Rattle.figures.specs.declared.quarter_figures.Figures.{Figures}
use Rattle.figures.specs.declared.side.Side.{Side}
use Rattle.figures.proofs.Gathered.{side_sound}
use Rattle.figures.proofs.Sound.{Sound, sound_prop}
use Rattle.figures.proofs.Steps.{turnover_within}

pub sound_in : (f : Figures) (d : Direction) → Sound (side_in d f)
sound_in f Up = ∥∥₁_elim f.given (sound_prop f.up) (λ p. subst Sound (sym p.1.up_is) (side_sound Up p.0.slots))
sound_in f Down = ∥∥₁_elim f.given (sound_prop f.down) (λ p. subst Sound (sym p.1.down_is) (side_sound Down p.0.slots))

-- the sizes of the parts
pub record Sizes (s : Side) : Type 0 where
  pub cycles : s.cycles.volume ≤ most_volume
  pub turnover : nat_abs s.cycles.turnover ≤ MOST_CENTS * s.cycles.volume
  pub scheduled : s.scheduled.volume ≤ most_volume
  pub above : s.direct_up.volume ≤ most_volume
  pub below : s.direct_down.volume ≤ most_volume

pub sizes_of : (s : Side) → Sound s → Sizes s
sizes_of s h = record {
  cycles = h.0.0;
  turnover = turnover_within most_volume s.formed s.cycles.volume s.cycles.turnover s.cycles.span h.0;
  scheduled = h.1.0;
  above = h.2.0;
  below = h.3.0;
}

pub sizes_in : (f : Figures) (d : Direction) (s : Side) → s ≡ side_in d f → Sizes s
sizes_in f d s e = sizes_of s (subst Sound (sym e) (sound_in f d))
