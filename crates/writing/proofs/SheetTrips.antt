-- A whole sheet is read back as it was written, and was written in the one form that is read.
use Rattle.std.proofs.Common.{◌≡◌, ℕ, ◌+◌, ◌<◌, ◌≤◌, List, [], length, drop, Ok, Err, Option, Result, sym, refl, ap, ◌∙◌, append-nil, arith, length-append, drop_of_length-le}
use Rattle.std.proofs.lemmas.List.{drop_at}
use Rattle.std.proofs.lemmas.Bool.Decides.{nat_tests}
use Rattle.std.specs.List.{flat_map, AllByRecursion}
use Rattle.units.specs.declared.price.Price.{Price}
use Rattle.units.specs.declared.zone_net.ZoneNet.{ZoneNet}
use Rattle.source.specs.declared.slot.TheConstants.{SLOTS}
use Rattle.source.specs.Slots.{Slot}
use Rattle.source.specs.Meanings.{Meaning}
use Rattle.sheet.specs.declared.fault.RecordFault.{RecordFault}
use Rattle.sheet.specs.Heads.{head_of}
use Rattle.sheet.specs.declared.fault.SheetFault.{SheetFault}
use Rattle.sheet.specs.declared.head.Head.{Head}
use Rattle.sheet.proofs.Places.{fault_after}
use Rattle.sheet.specs.Sheets.{nothing_follows, fault_of_slots, slots_from, sheet_slots, first_fault, sheet_net, sheet_avoided, sheet_meaning}
use Rattle.writing.specs.Bytes.{slot_bytes, slots_bytes, head_bytes, sheet_bytes}
use Rattle.writing.specs.Trips.{TellsSame, TellsBack, SameBytes}
use Rattle.writing.proofs.HeadTrips.{bytes_of, head_with, head_back, headed_as}
use Rattle.writing.proofs.SlotsTrips.{slots_of, length_slots, get_or_slots, slots_same, slots_joined, read_back, Stood, slots_stood, slots_counted}

ended : (s : List ℕ) (end : ℕ) → nothing_follows s end ≡ Ok tt → length s ≤ end
ended s end e = grind (arith, nat_tests)

module _ (m : Meaning) where
  abbrev sheet : List ℕ
  sheet = sheet_bytes m

  abbrev start : ℕ
  start = length (bytes_of m.zone m.avoided)

  abbrev told : List Slot
  told = slots_of m.slots 0 SLOTS

  head_told : head_of sheet ≡ head_with m.zone m.avoided start
  unfolding sheet_bytes head_bytes
  head_told = head_back sheet m.zone m.avoided (slots_bytes m.slots SLOTS) refl

  rest_is : drop start sheet ≡ flat_map slot_bytes told
  unfolding sheet_bytes head_bytes
  rest_is = drop_at (bytes_of m.zone m.avoided) (slots_bytes m.slots SLOTS) start refl ∙ sym (slots_joined m.slots SLOTS)

  slots_back : slots_from sheet start ≡ (told, Ok (start + length (flat_map slot_bytes told)))
  unfolding slots_from
  slots_back = read_back SLOTS sheet 0 start told [] (length_slots m.slots 0 SLOTS) (rest_is ∙ sym (append-nil (flat_map slot_bytes told)))

  whole : length sheet ≤ start + length (flat_map slot_bytes told)
  unfolding sheet_bytes head_bytes
  whole = omega (arith, length-append (bytes_of m.zone m.avoided) (slots_bytes m.slots SLOTS), ap length (slots_joined m.slots SLOTS))

  no_fault : first_fault sheet ≡ Ok tt
  unfolding first_fault
  no_fault = grind (arith, nat_tests, head_told, slots_back, whole)

  same_slots : sheet_slots sheet ≡ told
  unfolding sheet_slots
  same_slots = grind (arith, head_told, slots_back)

  -- the written sheet has no fault and tells what was written
  pub tells_back : TellsBack m
  unfolding sheet_net sheet_avoided
  tells_back = record { sound = no_fault; alike = grind (arith, head_told, same_slots, get_or_slots m.slots SLOTS) }

-- a sheet b without a fault, and a source that means what it tells
module _ (m : Meaning) (b : List ℕ) (bytes : AllByRecursion (λ x. x < 256) b) (alike : TellsSame (sheet_meaning b) m) where
  -- with its head, whose slots end at the sheet's end
  module _ (net : ZoneNet) (avoided : Option Price) (at : ℕ) (e : head_of b ≡ head_with net avoided at) where
    head_same : bytes_of net avoided ≡ head_bytes m
    unfolding head_bytes sheet_net sheet_avoided
    head_same = grind (arith, e, alike.zones, alike.values)

    bytes_same : flat_map slot_bytes (slots_from b at).0 ≡ slots_bytes m.slots SLOTS
    unfolding sheet_slots slots_from
    bytes_same = grind (arith, e, slots_counted SLOTS b 0 at, slots_same m.slots SLOTS (sheet_slots b), alike.slots, slots_joined m.slots SLOTS)

    closed_same : (r : Result ℕ RecordFault) → Stood b at (slots_from b at).0 r → fault_of_slots b r ≡ Ok tt → drop at b ≡ slots_bytes m.slots SLOTS
    closed_same (Ok end) h c = grind (arith, nat_tests, drop_of_length-le b {i = end}, append-nil, bytes_same)
    closed_same (Err f) h c = cc

    rest_same : fault_of_slots b (slots_from b at).1 ≡ Ok tt → drop at b ≡ slots_bytes m.slots SLOTS
    unfolding slots_from
    rest_same = closed_same (slots_from b at).1 (slots_stood SLOTS b 0 at bytes)

    whole_same : fault_of_slots b (slots_from b at).1 ≡ Ok tt → sheet_bytes m ≡ b
    unfolding sheet_bytes
    whole_same c = grind (arith, e, headed_as b bytes, head_same, rest_same)

  by_head : (x : Result Head SheetFault) → head_of b ≡ x → fault_after b x ≡ Ok tt → sheet_bytes m ≡ b
  by_head (Ok h) e c = whole_same h.zone_net h.avoided h.end e c
  by_head (Err f) e c = cc

-- a sheet without a fault has the bytes that are written of what it tells
pub same_bytes : (m : Meaning) → SameBytes m
unfolding first_fault
same_bytes m b bytes sound alike = by_head m b bytes alike (head_of b) refl sound
