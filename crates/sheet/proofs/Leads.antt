-- What a record tells, by its lead byte.
use Rattle.std.proofs.Common.{◌≡◌, ℕ, ◌-◌, ◌<◌, List, length, get_or, take, drop, ap}
use Rattle.std.proofs.lemmas.Slice.{first_rest}
use Rattle.sheet.specs.declared.fault.Spot.{Spot}
use Rattle.sheet.specs.Numbers.{ahead}
use Rattle.sheet.specs.Records.{slot_told, by_lead}

pub slot_led : (p : Spot) (s : List ℕ) → 0 < length s → slot_told p s ≡ by_lead p (ahead p 1) (get_or s 0 0) (take (length s - 1) (drop 1 s))
slot_led p s h = ap (slot_told p) (first_rest s 0 h)
