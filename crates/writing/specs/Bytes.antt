-- The bytes of a sheet, from what a source means.
use Rattle.std.specs.Prelude.{ℕ, zero, suc, ◌+◌, ◌*◌, ◌/◌, ◌%◌, ◌^◌, List, [], ◌∷◌, ◌++◌, ℤ, pos, negsuc, Some, None, Option, nat_lt, if◌then◌else◌}
use Rattle.sheet.specs.Heads.{opening}
use Rattle.sheet.specs.Records.{lead_byte}
use Rattle.source.specs.Meanings.{Meaning}
use Rattle.source.specs.declared.slot.Reading.{Reading}
use Rattle.source.specs.declared.slot.TheConstants.{SLOTS}
use Rattle.source.specs.Slots.{Slot}
use Rattle.units.specs.declared.price.Price.{Price}

-- how a number with a sign is stored: n as 2n, and -n - 1 as 2n + 1
abbrev pub folded : ℤ → ℕ
folded (pos n) = 2 * n
folded (negsuc n) = 2 * n + 1

-- the bytes of u, which is below 2 ^ 28: groups of seven bits, lowest first, with 2 ^ 7 added to each but the last
abbrev pub groups_of : ℕ → List ℕ
groups_of u =
    if nat_lt u (2 ^ 7) then (u ∷ [])
    else if nat_lt u (2 ^ 14) then ((u % 2 ^ 7 + 2 ^ 7) ∷ (u / 2 ^ 7) ∷ [])
    else if nat_lt u (2 ^ 21) then ((u % 2 ^ 7 + 2 ^ 7) ∷ (u / 2 ^ 7 % 2 ^ 7 + 2 ^ 7) ∷ (u / 2 ^ 14) ∷ [])
    else ((u % 2 ^ 7 + 2 ^ 7) ∷ (u / 2 ^ 7 % 2 ^ 7 + 2 ^ 7) ∷ (u / 2 ^ 14 % 2 ^ 7 + 2 ^ 7) ∷ (u / 2 ^ 21) ∷ [])

-- the bytes of a number
unfoldable pub number_bytes : ℤ → List ℕ
number_bytes z = groups_of (folded z)

-- the bytes of a price, if there is one
abbrev pub price_bytes : Option Price → List ℕ
price_bytes None = []
price_bytes (Some p) = number_bytes p.cents

-- the record of a reported slot: the lead byte, which says what prices follow, the demand, and the prices formed for it
abbrev pub reading_bytes : Reading → List ℕ
reading_bytes r = lead_byte r.up r.down ∷ (number_bytes r.demand.kw ++ (price_bytes r.up ++ price_bytes r.down))

-- the record of a slot: a 0 where it is not reported
abbrev pub slot_bytes : Slot → List ℕ
slot_bytes None = 0 ∷ []
slot_bytes (Some r) = reading_bytes r

-- the records of the first n slots
unfoldable pub slots_bytes : (ℕ → Slot) → ℕ → List ℕ
slots_bytes m zero = []
slots_bytes m (suc k) = slots_bytes m k ++ slot_bytes (m k)

-- the avoided value: a 0 where there is none, or a 1 and the value
abbrev pub avoided_bytes : Option Price → List ℕ
avoided_bytes None = 0 ∷ []
avoided_bytes (Some p) = 1 ∷ number_bytes p.cents

-- the head: the opening, the zone net and the avoided value
unfoldable pub head_bytes : Meaning → List ℕ
head_bytes m = opening ++ (number_bytes m.zone.kw ++ avoided_bytes m.avoided)

-- the sheet of what a source means: its head, and the records of its 228 slots
unfoldable pub sheet_bytes : Meaning → List ℕ
sheet_bytes m = head_bytes m ++ slots_bytes m.slots SLOTS
