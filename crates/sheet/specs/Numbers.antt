-- A number of the sheet: a price, a demand or a zone net, with the place where it ends.
use Rattle.std.specs.Prelude.{ℕ, ◌+◌, List, length, drop, ℤ, Ok, Result}
use Rattle.units.specs.Chains.{result_and_then, result_map_err}
use Rattle.units.specs.declared.bounds.OutOfBounds.{OutOfBounds}
use Rattle.sheet.specs.declared.fault.NumberFault.{NumberFault}
use Rattle.sheet.specs.declared.fault.NumberFault.TheVariants as nf
use Rattle.sheet.specs.declared.fault.Spot.{Spot}
use Rattle.sheet.specs.declared.number.GroupsFault.{GroupsFault}
use Rattle.sheet.specs.declared.number.GroupsFault.TheVariants as gf
use Rattle.sheet.specs.Groups.{groups, unfolded}

-- the spot n bytes on, in the same slot
abbrev pub ahead : Spot → ℕ → Spot
ahead p n = record { place = p.place + n; slot = p.slot }

-- a quantity and the byte at which its number ends, or what is wrong with the number
abbrev pub Number : Type 0 → Type 0
Number Q = Result (Q × ℕ) NumberFault

-- what is wrong with groups that begin at the byte from of s, where s begins at the spot p
abbrev pub groups_fault : Spot → List ℕ → ℕ → GroupsFault → NumberFault
groups_fault p s from gf.Ends = nf.Ends (ahead p (length s))
groups_fault p s from gf.Form = nf.Form (ahead p from)

-- the number that begins at the byte from of s, where s begins at the spot p: its groups, and the quantity that is made of them unless it is out of bounds
unfoldable pub quantity : {Q : Type 0} → (ℤ → Result Q OutOfBounds) → Spot → List ℕ → ℕ → Number Q
quantity made p s from =
    result_and_then (result_map_err (groups (drop from s)) (groups_fault p s from))
    (λ g. result_and_then (result_map_err (made (unfolded g.0)) (λ e. nf.Bounds (ahead p from)))
    (λ q. Ok (q, from + g.1)))
