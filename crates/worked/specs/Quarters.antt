-- Quarters worked by hand, in plain numbers: kW, and cents per MWh. Slots that are not named have demand 0 and no price.
use Rattle.std.specs.Prelude.{ℕ, ℤ, pos, negsuc, Some, None, Option, ◌==◌, nat_lt, if◌then◌else◌}
use Rattle.std.proofs.Common.{lit≤}
use Rattle.std.specs.Option.{option_and_then, unwrap_or}
use Rattle.std.specs.Result.{result_ok, result_unwrap_or}
use Rattle.source.specs.Meanings.{Meaning}
use Rattle.source.specs.Tables.{row_slot}
use Rattle.source.specs.declared.product.TheConstants.{CYCLES, SCHEDULED, DIRECT_UP}
use Rattle.source.specs.declared.slot.Reading.{Reading}
use Rattle.units.specs.Quantities.{no_net, price_of, zone_net_of}

-- demand 0 and no price
abbrev pub idle : Reading
idle = record { demand = record { kw = pos 0; bounded = lit≤ tt }; up = None; down = None }

-- a demand and its prices, each in its bounds
abbrev pub reading : ℤ → Option ℤ → Option ℤ → Reading
reading kw up down = unwrap_or (row_slot (record { demand = kw; up = up; down = down })) idle

-- a demand and an up price
abbrev pub upward : ℤ → ℤ → Reading
upward kw cents = reading kw (Some cents) None

-- a demand and a down price
abbrev pub downward : ℤ → ℤ → Reading
downward kw cents = reading kw None (Some cents)

-- a quarter whose slots are all reported, with a zone net and an avoided value in their bounds
abbrev pub quarter : (ℕ → Reading) → ℤ → Option ℤ → Meaning
quarter readings net value = record {
  slots = λ k. Some (readings k);
  zone = result_unwrap_or (zone_net_of net) no_net;
  avoided = option_and_then (λ cents. result_ok (price_of cents)) value;
}

-- cycles at 100,000 kW, a third of them each at 200, 400 and 700; 300,000 kW scheduled at 100, 100,000 kW direct at 1000; with this avoided value
abbrev pub three_levels_with : ℤ → Meaning
three_levels_with value =
    quarter
    (λ k.
    if nat_lt k 75 then upward (pos 100_000) (pos 20_000)
    else if nat_lt k 150 then upward (pos 100_000) (pos 40_000)
    else if nat_lt k CYCLES then upward (pos 100_000) (pos 70_000)
    else if k == SCHEDULED then upward (pos 300_000) (pos 10_000)
    else if k == DIRECT_UP then upward (pos 100_000) (pos 100_000)
    else idle)
    (pos 400_000)
    (Some value)

-- these three levels with an avoided value of 50.00
abbrev pub three_levels : Meaning
three_levels = three_levels_with (pos 5_000)

-- cycles at 80,000 kW and 100, 200,000 kW scheduled at 50
abbrev pub manual_activated : Meaning
manual_activated =
    quarter
    (λ k.
    if nat_lt k CYCLES then upward (pos 80_000) (pos 10_000)
    else if k == SCHEDULED then upward (pos 200_000) (pos 5_000)
    else idle)
    (pos 200_000)
    None

-- cycles at -80,000 kW and 30, -200,000 kW scheduled at 10; with this avoided value
abbrev pub manual_activated_down : ℤ → Meaning
manual_activated_down value =
    quarter
    (λ k.
    if nat_lt k CYCLES then downward (negsuc 79_999) (pos 3_000)
    else if k == SCHEDULED then downward (negsuc 199_999) (pos 1_000)
    else idle)
    (negsuc 199_999)
    (Some value)

-- cycles at 200,000 kW and 50, a scheduled price of 100 without demand
abbrev pub manual_formed : Meaning
manual_formed =
    quarter
    (λ k.
    if nat_lt k CYCLES then upward (pos 200_000) (pos 5_000)
    else if k == SCHEDULED then upward (pos 0) (pos 10_000)
    else idle)
    (pos 400_000)
    None

-- cycles 0 and 1 at 1 kW, the first at 0.00
abbrev pub half_cent : ℤ → Meaning
half_cent p =
    quarter
    (λ k.
    if k == 0 then upward (pos 1) (pos 0)
    else if k == 1 then upward (pos 1) p
    else idle)
    (pos 0)
    None

-- cycle 0 at 1 kW and 10.00 up, cycle 1 at -1 kW and 5.00 down
abbrev pub balanced : Option ℤ → Meaning
balanced v =
    quarter
    (λ k.
    if k == 0 then upward (pos 1) (pos 1_000)
    else if k == 1 then downward (negsuc 0) (pos 500)
    else idle)
    (pos 0)
    v
