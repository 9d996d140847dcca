-- A whole sheet: what it tells as a price source, and its first fault.
use Rattle.std.specs.Prelude.{ℕ, List, length, replicate, None, Ok, Err, Option, Result, nat_lt, option_and_then, slice_index_or, if◌then◌else◌}
use Rattle.std.specs.Option.{option_map_or}
use Rattle.std.specs.Result.{result_ok}
use Rattle.units.specs.Chains.{result_and_then, result_map_err}
use Rattle.units.specs.declared.price.Price.{Price}
use Rattle.units.specs.declared.zone_net.ZoneNet.{ZoneNet}
use Rattle.units.specs.Quantities.{no_net}
use Rattle.source.specs.Slots.{Slot}
use Rattle.source.specs.Meanings.{Meaning}
use Rattle.source.specs.declared.slot.TheConstants.{SLOTS}
use Rattle.sheet.specs.declared.fault.RecordFault.{RecordFault}
use Rattle.sheet.specs.declared.fault.SheetFault.{SheetFault}
use Rattle.sheet.specs.declared.fault.SheetFault.TheVariants as sf
use Rattle.sheet.specs.Heads.{head_of}
use Rattle.sheet.specs.Slots.{slots_told, SlotsTold}

-- no byte may follow the last slot
abbrev pub nothing_follows : List ℕ → ℕ → Result (Unit {0}) SheetFault
nothing_follows s at = if nat_lt at (length s) then Err (sf.After at) else Ok tt

-- the first fault of the slots, as the sheet's; or that bytes follow them
abbrev pub fault_of_slots : List ℕ → Result ℕ RecordFault → Result (Unit {0}) SheetFault
fault_of_slots s x = result_and_then (result_map_err x sf.Slot) (nothing_follows s)

-- what is told of all 228 slots, whose records begin at the place at of the sheet s
unfoldable pub slots_from : List ℕ → ℕ → SlotsTold
slots_from s at = slots_told SLOTS s 0 at

-- what is told of each of the 228 slots; with a fault in the head, nothing of any
unfoldable pub sheet_slots : List ℕ → List Slot
sheet_slots s = option_map_or (λ h. (slots_from s h.end).0) (result_ok (head_of s)) (replicate SLOTS None)

-- the zone net; with a fault in the head, 0
unfoldable pub sheet_net : List ℕ → ZoneNet
sheet_net s = option_map_or (λ h. h.zone_net) (result_ok (head_of s)) no_net

-- the avoided value, if there is one; with a fault in the head, none
unfoldable pub sheet_avoided : List ℕ → Option Price
sheet_avoided s = option_and_then (λ h. h.avoided) (result_ok (head_of s))

-- what the bytes s tell as a price source
abbrev pub sheet_meaning : List ℕ → Meaning
sheet_meaning s = record { slots = λ k. slice_index_or (sheet_slots s) k None; zone = sheet_net s; avoided = sheet_avoided s }

-- the first fault, from the front of the sheet, or that there is none
unfoldable pub first_fault : List ℕ → Result (Unit {0}) SheetFault
first_fault s = result_and_then (head_of s) (λ h. fault_of_slots s (slots_from s h.end).1)
