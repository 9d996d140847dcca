-- V is above 0 exactly where a slot counts.
use Rattle.std.proofs.Common.{◌≡◌, ℕ, zero, suc, ◌+◌, ◌<◌, ◌≤◌, Option, sym, subst, inl, inr, mul-pos, arith}
use Rattle.std.proofs.lemmas.Bool.{cases_eq}
use Rattle.source.specs.Meanings.{Meaning}
use Rattle.source.specs.Products.{weight}
use Rattle.source.specs.Slots.{Slot}
use Rattle.source.specs.declared.direction.Direction.{Direction}
use Rattle.source.specs.declared.direction.Direction.TheVariants.{Up, Down}
use Rattle.figures.specs.Components.{side_in, volume}
use Rattle.figures.specs.Counting.{Counts, counted_of}
use Rattle.figures.specs.Gathering.{AreFiguresOf, SomeCounts}
use Rattle.figures.specs.Sides.{Slots, totals_to, totals_with, side_of, volume_of}
use Rattle.figures.specs.declared.quarter_figures.Figures.{Figures}
use Rattle.figures.specs.declared.side.Activation.{Activation}
use Rattle.figures.specs.declared.side.Side.{Side}
use Rattle.figures.specs.declared.side.Totals.{Totals}
use Rattle.figures.proofs.Gathered.{weight_bounds}

-- ---- one slot
slot_volume : (d : Direction) (w : ℕ) (s : Slot) → 1 ≤ w → Counts d s → 1 ≤ volume_of (counted_of d w s)
slot_volume d w s some h = grind (arith, mul-pos)

slot_counts : (d : Direction) (w : ℕ) (s : Slot) → 1 ≤ volume_of (counted_of d w s) → Counts d s
slot_counts d w s k = grind arith

-- ---- the cycles
joined_volume : (o : Option Activation) (t : Totals) → (totals_with o t).volume ≡ t.volume + volume_of o
joined_volume o t = grind arith

one_of : (P : Type 0) (a b : ℕ) → 1 ≤ a + b → (1 ≤ a → P) → (1 ≤ b → P) → P
one_of P a b k f g = grind arith

cycles_count : (d : Direction) (m : Slots) (n : ℕ) → 1 ≤ (totals_to d m n).volume → (k : ℕ) × (k < n) × Counts d (m k)
unfolding totals_to
cycles_count d m zero h = absurd (omega arith)
cycles_count d m (suc j) h =
    let c = counted_of d (weight j) (m j) in
    let e = joined_volume c (totals_to d m j) in
    one_of ((k : ℕ) × (k < suc j) × Counts d (m k)) (totals_to d m j).volume (volume_of c) (omega (arith, e))
    (λ v. let i = cycles_count d m j v in (i.0, omega (arith, i.1), i.2))
    (λ v. (j, omega arith, slot_counts d (weight j) (m j) v))

count_cycles : (d : Direction) (m : Slots) (n k : ℕ) → n ≤ 228 → k < n → Counts d (m k) → 1 ≤ (totals_to d m n).volume
unfolding totals_to
count_cycles d m zero k few h c = absurd (omega arith)
count_cycles d m (suc j) k few h c = elim (cases_eq k j) [
  | inl x ↦ grind (arith, joined_volume, slot_volume, weight_bounds)
  | inr x ↦ grind (arith, joined_volume, count_cycles d m j k)
]

-- ---- the side
-- which part of a side counts
pub by_part : (P : Type 0) (s : Side) → 1 ≤ volume s → (1 ≤ s.cycles.volume → P) → (1 ≤ s.scheduled.volume → P) → (1 ≤ s.direct_up.volume → P) → (1 ≤ s.direct_down.volume → P) → P
by_part P s k a b c d = grind arith

side_counts : (d : Direction) (m : Slots) → 1 ≤ volume (side_of d m) → SomeCounts d m
side_counts d m h =
    by_part (SomeCounts d m) (side_of d m) h
    (λ v. let i = cycles_count d m 225 v in (i.0, omega (arith, i.1), i.2))
    (λ v. (225, omega arith, slot_counts d (weight 225) (m 225) v))
    (λ v. (226, omega arith, slot_counts d (weight 226) (m 226) v))
    (λ v. (227, omega arith, slot_counts d (weight 227) (m 227) v))

counts_side : (d : Direction) (m : Slots) → SomeCounts d m → 1 ≤ volume (side_of d m)
counts_side d m c = grind (arith, slot_volume, weight_bounds, count_cycles d m 225 c.0)

pub counts_shown : (m : Meaning) (f : Figures) → AreFiguresOf m f → (d : Direction) → (1 ≤ volume (side_in d f) → SomeCounts d m.slots) × (SomeCounts d m.slots → 1 ≤ volume (side_in d f))
counts_shown m f g Up = (λ v. side_counts Up m.slots (subst (λ s. 1 ≤ volume s) g.up_is v), λ c. subst (λ s. 1 ≤ volume s) (sym g.up_is) (counts_side Up m.slots c))
counts_shown m f g Down = (λ v. side_counts Down m.slots (subst (λ s. 1 ≤ volume s) g.down_is v), λ c. subst (λ s. 1 ≤ volume s) (sym g.down_is) (counts_side Down m.slots c))
