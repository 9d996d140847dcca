-- What the words of a line say.
use Rattle.std.specs.Prelude.{ℕ, zero, suc, ◌+◌, ◌-◌, ◌*◌, ◌/◌, ◌%◌, min, Bool, not, ℤ, Some, None, Ok, Option, Result, ◌==◌, nat_lt, codes, if◌then◌else◌}
use Rattle.units.specs.Chains.{result_and_then}
use Rattle.source.specs.Slots.{Slot}
use Rattle.units.specs.Quantities.{demand_of, price_of, zone_net_of}
use Rattle.units.specs.declared.bounds.OutOfBounds.{OutOfBounds}
use Rattle.units.specs.declared.bounds.TheConstants.{MOST_KW}
use Rattle.units.specs.declared.demand.Demand.{Demand}
use Rattle.units.specs.declared.price.Price.{Price}
use Rattle.units.specs.declared.zone_net.ZoneNet.{ZoneNet}
use Rattle.words.specs.Faults.{at_word}
use Rattle.words.specs.Lines.{Words, end_at, is_word, keyword, number_at, word_at}
use Rattle.words.specs.Numerals.{Number, integer_of}
use Rattle.words.specs.declared.decimal.TheConstants.{READ_AT_MOST}
use Rattle.quarter_text.specs.Faults.{ReadOrFault, in_bounds}
use Rattle.quarter_text.specs.Ranges.{range_of, weight_of_range}
use Rattle.quarter_text.specs.declared.fault.EnergyFault.{EnergyFault}
use Rattle.quarter_text.specs.declared.fault.Part.{Part}
use Rattle.quarter_text.specs.declared.fault.Part.TheVariants as part
use Rattle.quarter_text.specs.declared.fault.Problem.TheVariants.{EnergyBounds, Expected, NotWholeKw}
use Rattle.quarter_text.specs.declared.range.Range.{Range}

-- the quantity at k, of a number with up to so many decimals
abbrev pub quantity_at : {Q : Type 0} → (ℤ → Result Q OutOfBounds) → Words → ℕ → ℕ → Part → ReadOrFault Q
quantity_at made ws k places p = result_and_then (number_at ws k places (Expected p)) (λ n. in_bounds k (made (integer_of n)))

-- euros with up to two decimals at k, or a - where there is no price
abbrev pub price_at : Words → ℕ → Part → ReadOrFault (Option Price)
price_at ws k p = if is_word ws k (codes "-") then Ok None else result_and_then (quantity_at price_of ws k 2 p) (λ price. Ok (Some price))

-- the line of the zone net
abbrev pub zone_net_line : Words → ReadOrFault ZoneNet
zone_net_line ws =
    result_and_then (keyword ws 0 (codes "net") (Expected part.Net))
    (λ net. result_and_then (quantity_at zone_net_of ws 1 0 part.ZoneNet)
    (λ zone_net. result_and_then (end_at ws 2 (Expected part.End))
    (λ ended. Ok zone_net)))

-- the line of the avoided value
abbrev pub avoided_line : Words → ReadOrFault (Option Price)
avoided_line ws =
    result_and_then (keyword ws 0 (codes "avoided") (Expected part.Avoided))
    (λ word. result_and_then (price_at ws 1 part.AvoidedValue)
    (λ avoided. result_and_then (end_at ws 2 (Expected part.End))
    (λ ended. Ok avoided)))

-- whether the line is of the slots that no line names
abbrev pub is_of_others : Words → Bool
is_of_others ws = is_word ws 0 (codes "others")

-- what the line of those slots says of each of them: it is unreported
abbrev pub others_line : Words → ReadOrFault Slot
others_line ws =
    result_and_then (keyword ws 1 (codes "unreported") (Expected part.Unreported))
    (λ word. result_and_then (end_at ws 2 (Expected part.End))
    (λ ended. Ok None))

-- the slots that a line names
abbrev pub range_line : Words → ReadOrFault Range
range_line ws = result_and_then (word_at ws 0 (Expected part.Slots)) range_of

-- the power, in kW, of 1 kWh within a cycle of 4 s, of which an hour has 900
abbrev pub kw_per_kwh : ℕ
kw_per_kwh = 900

-- the W of a kW
abbrev pub watts_per_kw : ℕ
watts_per_kw = 1000

-- whether n kWh over slots that weigh w in all, a cycle 1 and a manual slot 225, come to whole kW in each of them
abbrev pub is_whole : ℕ → ℕ → Bool
is_whole w n = n * kw_per_kwh % w == 0

-- the most kWh over slots that weigh w in all that come to a demand in its bounds
abbrev pub most_energy : ℕ → ℕ
most_energy w = MOST_KW * w / kw_per_kwh

-- the greatest number of kWh up to n that comes to whole kW
abbrev pub whole_up_to : ℕ → ℕ → ℕ
whole_up_to w zero = 0
whole_up_to w (suc n) = if is_whole w (suc n) then suc n else whole_up_to w n

-- the least of the k numbers of kWh after n that comes to whole kW, if one does
abbrev pub whole_after : ℕ → ℕ → ℕ → Option ℕ
whole_after w n zero = None
whole_after w n (suc k) = if is_whole w (n + 1) then Some (n + 1) else whole_after w (n + 1) k

-- what n kWh over slots r, that weigh w, come to in each where that is no demand, in W, and the nearest energies that come to one
abbrev pub no_demand : Range → ℕ → Bool → ℕ → EnergyFault
no_demand r w negative n = record {
  first = r.first;
  last = r.last;
  negative = negative;
  watts = n * kw_per_kwh * watts_per_kw / w;
  part_more = not (n * kw_per_kwh * watts_per_kw % w == 0);
  below = whole_up_to w (min n (most_energy w));
  above = whole_after w n (most_energy w - n);
}

-- the same of a number, of which READ_AT_MOST kWh are taken where it is greater
abbrev pub energy_fault : Range → ℕ → Number → EnergyFault
energy_fault r w n = no_demand r w n.negative (min n.size READ_AT_MOST)

-- n kWh over slots r, that weigh w, as the power in each of them, which has to be in its bounds, and whole
abbrev pub power_over : ℕ → Range → ℕ → Number → ReadOrFault Demand
power_over k r w n =
    if nat_lt (MOST_KW * w) (n.size * kw_per_kwh) then at_word k (EnergyBounds (energy_fault r w n))
    else if is_whole w n.size then in_bounds k (demand_of (integer_of (record { negative = n.negative; size = n.size * kw_per_kwh / w })))
    else at_word k (NotWholeKw (energy_fault r w n))

-- n kWh over slots, as the power in each of them
abbrev pub power : ℕ → Range → Number → ReadOrFault Demand
power k r n = power_over k r (weight_of_range r) n

-- the power of the energy at k, in MWh with up to three decimals, over slots
abbrev pub energy_at : Words → ℕ → Range → ReadOrFault Demand
energy_at ws k r = result_and_then (number_at ws k 3 (Expected part.Demand)) (power k r)

-- the two prices from the word k on, to the line's end, with a demand
abbrev pub prices_after : Words → ℕ → Demand → ReadOrFault Slot
prices_after ws k d =
    result_and_then (price_at ws k part.UpPrice)
    (λ up. result_and_then (price_at ws (k + 1) part.DownPrice)
    (λ down. result_and_then (end_at ws (k + 2) (Expected part.End))
    (λ ended. Ok (Some (record { demand = d; up = up; down = down })))))

-- what the words after the slots say of each of them: unreported, or a demand in kW or in MWh over them, and prices
abbrev pub told_by : Words → Range → ReadOrFault Slot
told_by ws r =
    if is_word ws 1 (codes "unreported") then result_and_then (end_at ws 2 (Expected part.End)) (λ ended. Ok None)
    else if is_word ws 2 (codes "MWh") then result_and_then (energy_at ws 1 r) (prices_after ws 3)
    else result_and_then (quantity_at demand_of ws 1 0 part.Demand) (prices_after ws 2)
