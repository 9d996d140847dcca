-- The record of one slot: a lead byte, and the numbers that it announces.
use Rattle.std.specs.Prelude.{ℕ, ◌+◌, List, [], ◌∷◌, Some, None, Ok, Err, Option, Result, ◌==◌, if◌then◌else◌}
use Rattle.units.specs.Chains.{result_and_then, result_map_err}
use Rattle.units.specs.declared.demand.Demand.{Demand}
use Rattle.units.specs.declared.price.Price.{Price}
use Rattle.units.specs.Quantities.{demand_of, price_of}
use Rattle.source.specs.Slots.{Slot}
use Rattle.sheet.specs.declared.fault.NumberFault.{NumberFault}
use Rattle.sheet.specs.declared.fault.RecordFault.{RecordFault}
use Rattle.sheet.specs.declared.fault.RecordFault.TheVariants as rf
use Rattle.sheet.specs.declared.fault.Spot.{Spot}
use Rattle.sheet.specs.Numbers.{quantity, ahead}

-- the lead byte of a reported slot, by the prices that follow its demand: none, the up price, the down price, both
abbrev pub lead_byte : {X : Type 0} → Option X → Option X → ℕ
lead_byte None None = 1
lead_byte (Some u) None = 2
lead_byte None (Some v) = 3
lead_byte (Some u) (Some v) = 4

-- what a record tells of its slot, and how many bytes it has; or what is wrong with it
abbrev pub SlotTold : Type 0
SlotTold = Result (Slot × ℕ) RecordFault

-- a slot that is reported: its demand, and the prices formed for it
abbrev pub reported_slot : Demand → Option Price → Option Price → Slot
reported_slot d u v = Some (record { demand = d; up = u; down = v })

-- the same, told in n bytes after the lead byte
abbrev pub reported : Demand → Option Price → Option Price → ℕ → SlotTold
reported d u v n = Ok (reported_slot d u v, 1 + n)

-- a fault in a number is the record's
abbrev pub in_record : {X : Type 0} → Result X NumberFault → Result X RecordFault
in_record x = result_map_err x rf.Number

-- a demand and the price after it, with the place where they end, in the bytes s, which begin at p
unfoldable pub demand_and_price : Spot → List ℕ → Result (Demand × Price × ℕ) NumberFault
demand_and_price p s =
    result_and_then (quantity demand_of p s 0)
    (λ demand. result_and_then (quantity price_of p s demand.1)
    (λ price. Ok (demand.0, price.0, price.1)))

-- what the lead byte of a record at p announces: 0 an unreported slot, 1 to 4 a demand and its prices; s follows that byte, and begins at q
unfoldable pub by_lead : Spot → Spot → ℕ → List ℕ → SlotTold
by_lead p q lead s =
    if lead == 0 then Ok (None, 1)
    else if lead == 1 then result_and_then (in_record (quantity demand_of q s 0)) (λ d. reported d.0 None None d.1)
    else if lead == 2 then result_and_then (in_record (demand_and_price q s)) (λ g. reported g.0 (Some g.1) None g.2)
    else if lead == 3 then result_and_then (in_record (demand_and_price q s)) (λ g. reported g.0 None (Some g.1) g.2)
    else if lead == 4 then result_and_then (in_record (demand_and_price q s)) (λ g. result_and_then (in_record (quantity price_of q s g.2)) (λ h. reported g.0 (Some g.1) (Some h.0) h.1))
    else Err (rf.Lead p)

-- what the record at the front of s tells, where s begins at p
abbrev pub slot_told : Spot → List ℕ → SlotTold
slot_told p [] = Err (rf.Ends p)
slot_told p (lead ∷ s) = by_lead p (ahead p 1) lead s
