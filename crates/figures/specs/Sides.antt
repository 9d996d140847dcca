-- The figures that the slots of a quarter give.
use Rattle.std.specs.Prelude.{◌≡◌, ℕ, zero, suc, ◌+◌, ◌<◌, ℤ, pos, ◌+ℤ◌, ◌*ℤ◌, IsSome, Some, None, Option}
use Rattle.source.specs.Meanings.{Meaning}
use Rattle.source.specs.Products.{manual_slot, weight}
use Rattle.source.specs.declared.direction.Direction.{Direction}
use Rattle.source.specs.declared.direction.Direction.TheVariants.{Up, Down}
use Rattle.source.specs.declared.product.ManualProduct.TheVariants.{Scheduled, DirectUp, DirectDown}
use Rattle.source.specs.declared.product.TheConstants.{CYCLES}
use Rattle.source.specs.declared.slot.TheConstants.{SLOTS}
use Rattle.source.specs.Slots.{Slot}
use Rattle.units.specs.declared.price.Price.{Price}
use Rattle.units.specs.declared.zone_net.ZoneNet.{ZoneNet}
use Rattle.figures.specs.Counting.{kw_of, counted_of, formed_of}
use Rattle.figures.specs.Spans.{widened, span_with}
use Rattle.figures.specs.declared.side.Activation.{Activation}
use Rattle.figures.specs.declared.side.Manual.{Manual}
use Rattle.figures.specs.declared.side.Side.{Side}
use Rattle.figures.specs.declared.side.Totals.{Totals}
use Rattle.figures.specs.declared.span.Span.{Span}

-- what is told of each slot, by its number
abbrev pub Slots : Type 0
Slots = ℕ → Slot

-- the first n slots are reported
abbrev pub ReportedTo : Slots → ℕ → Type 0
ReportedTo m n = (k : ℕ) → k < n → IsSome (m k)

-- the sum of demand times weight over the first n slots
unfoldable pub net_to : Slots → ℕ → ℤ
net_to m zero = pos 0
net_to m (suc k) = net_to m k +ℤ (pos (weight k) *ℤ kw_of (m k))

-- the lowest and the highest price formed in the first n slots
unfoldable pub formed_to : Direction → Slots → ℕ → Option Span
formed_to d m zero = None
formed_to d m (suc k) = span_with (formed_of d (m k)) (formed_to d m k)

-- the totals where nothing counts: V and S are 0, and there is no price
abbrev pub no_totals : Totals
no_totals = record { volume = 0; turnover = pos 0; span = None }

-- the totals with what one slot more counts: its volume in V, volume times price in S, and its price
abbrev pub totals_with : Option Activation → Totals → Totals
totals_with None t = t
totals_with (Some a) t = record { volume = t.volume + a.volume; turnover = t.turnover +ℤ (pos a.volume *ℤ a.price.cents); span = Some (widened a.price t.span) }

-- V, S and the prices of the slots that count among the first n
unfoldable pub totals_to : Direction → Slots → ℕ → Totals
totals_to d m zero = no_totals
totals_to d m (suc k) = totals_with (counted_of d (weight k) (m k)) (totals_to d m k)

-- the volume of what a slot counts; 0 where it counts nothing
abbrev pub volume_of : Option Activation → ℕ
volume_of None = 0
volume_of (Some a) = a.volume

-- a manual slot: its volume, 0 unless it counts, and its formed price
abbrev pub manual_at : Direction → Slots → ℕ → Manual
manual_at d m k = record { volume = volume_of (counted_of d (weight k) (m k)); price = formed_of d (m k) }

-- the figures of a direction
abbrev pub side_of : Direction → Slots → Side
side_of d m = record {
  cycles = totals_to d m CYCLES;
  scheduled = manual_at d m (manual_slot Scheduled);
  direct_up = manual_at d m (manual_slot DirectUp);
  direct_down = manual_at d m (manual_slot DirectDown);
  formed = formed_to d m SLOTS;
}

-- the 228 slots of a source are reported, and it gives this local net, zone net, avoided value and figures of each direction
pub record SourceGives (m : Meaning) (local_net : ℤ) (zone_net : ZoneNet) (avoided : Option Price) (up down : Side) : Type 0 where
  pub reported_all : ReportedTo m.slots SLOTS
  pub local_net_is : local_net ≡ net_to m.slots SLOTS
  pub zone_net_is : zone_net ≡ m.zone
  pub avoided_is : avoided ≡ m.avoided
  pub up_is : up ≡ side_of Up m.slots
  pub down_is : down ≡ side_of Down m.slots
