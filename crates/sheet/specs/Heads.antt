-- The head of a sheet: its opening, the zone net, and the avoided value after its flag.
use Rattle.std.specs.Prelude.{ℕ, ◌+◌, List, [], ◌∷◌, length, Some, None, Ok, Err, Option, Result, ◌==◌, nat_lt, slice_index, if◌then◌else◌}
use Rattle.units.specs.Chains.{result_and_then, result_map_err}
use Rattle.units.specs.declared.price.Price.{Price}
use Rattle.units.specs.Quantities.{price_of, zone_net_of}
use Rattle.sheet.specs.declared.fault.SheetFault.{SheetFault}
use Rattle.sheet.specs.declared.fault.SheetFault.TheVariants as sf
use Rattle.sheet.specs.declared.fault.Spot.{Spot}
use Rattle.sheet.specs.declared.fault.TheConstants.{HEAD}
use Rattle.sheet.specs.declared.head.Head.{Head}
use Rattle.sheet.specs.Numbers.{quantity, Number}

-- the bytes that open every sheet: ISP1
abbrev pub opening : List ℕ
opening = 0x49 ∷ 0x53 ∷ 0x50 ∷ 0x31 ∷ []

-- the bytes want stand at the place at, where s begins; else the first that is missing or wrong
abbrev pub opens : ℕ → List ℕ → List ℕ → Result (Unit {0}) SheetFault
opens at [] s = Ok tt
opens at (w ∷ want) [] = Err (sf.Ends at)
opens at (w ∷ want) (b ∷ s) = if b == w then opens (at + 1) want s else Err (sf.Opening at)

-- where the head begins: at the sheet's first byte, and in no slot, which is told by the number after the last slot's
abbrev pub front : Spot
front = record { place = 0; slot = HEAD }

-- a fault in a number of the head is the sheet's
abbrev pub in_head : {Q : Type 0} → Number Q → Result (Q × ℕ) SheetFault
in_head x = result_map_err x sf.Head

-- a 0, or a 1 and the avoided value after it, with the place after them
abbrev pub by_flag : List ℕ → ℕ → ℕ → Result (Option Price × ℕ) SheetFault
by_flag s at flag =
    if flag == 0 then Ok (None, at + 1)
    else if flag == 1 then result_and_then (in_head (quantity price_of front s (at + 1))) (λ price. Ok (Some price.0, price.1))
    else Err (sf.Flag at)

-- the flag at the place at, and what follows it
unfoldable pub avoided_at : List ℕ → ℕ → Result (Option Price × ℕ) SheetFault
avoided_at s at = if nat_lt at (length s) then by_flag s at (slice_index s at) else Err (sf.Ends (length s))

-- the head of the sheet s, or its first fault: the opening, the zone net, the flag and the avoided value
unfoldable pub head_of : List ℕ → Result Head SheetFault
head_of s =
    result_and_then (opens 0 opening s)
    (λ opened. result_and_then (in_head (quantity zone_net_of front s (length opening)))
    (λ net. result_and_then (avoided_at s net.1)
    (λ avoided. Ok (record { zone_net = net.0; avoided = avoided.0; end = avoided.1 }))))
