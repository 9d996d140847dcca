-- What rows of plain numbers tell.
use Rattle.std.specs.Prelude.{List, length, ℤ, pos, None, Ok, Option, Result, nat_lt, slice_index_or, if◌then◌else◌}
use Rattle.std.specs.Option.{option_map, option_transpose}
use Rattle.std.specs.Result.{result_ok}
use Rattle.source.specs.Meanings.{Meaning}
use Rattle.source.specs.Slots.{Slot}
use Rattle.source.specs.declared.table.Row.{Row}
use Rattle.units.specs.Chains.{result_and_then}
use Rattle.units.specs.Quantities.{demand_of, price_of}
use Rattle.units.specs.declared.bounds.OutOfBounds.{OutOfBounds}
use Rattle.units.specs.declared.price.Price.{Price}
use Rattle.units.specs.declared.zone_net.ZoneNet.{ZoneNet}

-- an absent number is no price, and one out of bounds is refused
abbrev pub price_if_any : Option ℤ → Result (Option Price) OutOfBounds
price_if_any cents = option_transpose (option_map price_of cents)

-- what a row tells of its slot; with any number out of bounds the slot is unreported
abbrev pub row_slot : Row → Slot
row_slot r = result_ok
    (result_and_then (demand_of r.demand)
    (λ demand. result_and_then (price_if_any r.up)
    (λ up. result_and_then (price_if_any r.down)
    (λ down. Ok (record { demand = demand; up = up; down = down })))))

-- demand 0 and no price
abbrev pub idle_row : Row
idle_row = record { demand = pos 0; up = None; down = None }

-- a slot that is reported so
abbrev pub idle : Slot
idle = row_slot idle_row

-- a row for each slot from 0 on; a missing one is unreported
abbrev pub table_meaning : List Row → ZoneNet → Option Price → Meaning
table_meaning rows net value = record {
  slots = λ k. if nat_lt k (length rows) then row_slot (slice_index_or rows k idle_row) else None;
  zone = net;
  avoided = value;
}
