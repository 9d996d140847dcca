-- Netting fill: the avoided value as the price of a cycle whose demand was met by netting.
use Rattle.std.specs.Prelude.{Bool, pos, Some, None, Option, int_lt, nat_lt, if◌then◌else◌}
use Rattle.std.specs.Option.{option_or}
use Rattle.source.specs.Meanings.{Meaning}
use Rattle.source.specs.Slots.{Slot}
use Rattle.source.specs.declared.product.TheConstants.{CYCLES}
use Rattle.units.specs.declared.price.Price.{Price}

-- the price formed, or else the avoided value where there is demand in its direction
abbrev pub filled_price : Bool → Option Price → Option Price → Option Price
filled_price demanded formed avoided = option_or formed (if demanded then avoided else None)

-- each price of a reported slot is filled; an unreported slot stays so
abbrev pub fill_slot : Option Price → Slot → Slot
fill_slot avoided None = None
fill_slot avoided (Some r) = Some (record {
  demand = r.demand;
  up = filled_price (int_lt (pos 0) r.demand.kw) r.up avoided;
  down = filled_price (int_lt r.demand.kw (pos 0)) r.down avoided;
})

-- the cycles are filled, all else is told as below
abbrev pub filled_meaning : Meaning → Meaning
filled_meaning m = record {
  slots = λ k. if nat_lt k CYCLES then fill_slot m.avoided (m.slots k) else m.slots k;
  zone = m.zone;
  avoided = m.avoided;
}
