-- Where a fault stands: at the sheet's end, or at a byte before it, and in which slot.
use Rattle.std.proofs.Common.{◌≡◌, ℕ, ◌+◌, ◌<◌, ◌≤◌, List, [], ◌∷◌, length, drop, replicate, ℤ, None, Ok, Err, Result, arith, length-drop}
use Rattle.std.proofs.lemmas.Bool.Decides.{nat_tests}
use Rattle.units.specs.Chains.{result_and_then, result_map_err}
use Rattle.units.specs.declared.bounds.OutOfBounds.{OutOfBounds}
use Rattle.units.specs.declared.demand.Demand.{Demand}
use Rattle.units.specs.declared.price.Price.{Price}
use Rattle.source.specs.declared.slot.TheConstants.{SLOTS}
use Rattle.sheet.specs.declared.fault.NumberFault.{NumberFault}
use Rattle.sheet.specs.declared.fault.NumberFault.TheVariants as nf
use Rattle.sheet.specs.declared.fault.SheetFault.{SheetFault}
use Rattle.sheet.specs.declared.head.Head.{Head}
use Rattle.sheet.specs.declared.fault.Spot.{Spot}
use Rattle.sheet.specs.declared.number.GroupsFault.TheVariants as gf
use Rattle.sheet.specs.Faults.{number_number, number_spot, record_number, record_spot}
use Rattle.sheet.specs.Groups.{Groups, groups, unfolded}
use Rattle.sheet.specs.Numbers.{Number, ahead, groups_fault, quantity}
use Rattle.std.specs.Option.{option_map_or}
use Rattle.std.specs.Result.{result_ok}
use Rattle.source.specs.Slots.{Slot}
use Rattle.sheet.specs.Sheets.{fault_of_slots, slots_from}
use Rattle.sheet.specs.Records.{demand_and_price, SlotTold, slot_told, by_lead}

-- groups take at least one byte, and no more than there are
abbrev Long : List ℕ → Groups → Type 0
Long s (Ok g) = (1 ≤ g.1) × (g.1 ≤ length s)
Long s (Err gf.Ends) = Unit {0}
Long s (Err gf.Form) = 1 ≤ length s

groups_long : (s : List ℕ) → Long s (groups s)
groups_long [] = tt
groups_long (a ∷ []) = grind (arith, nat_tests)
groups_long (a ∷ b ∷ []) = grind (arith, nat_tests)
groups_long (a ∷ b ∷ c ∷ []) = grind (arith, nat_tests)
groups_long (a ∷ b ∷ c ∷ d ∷ s) = grind (arith, nat_tests)

-- a fault of the given number at the spot p, in a sheet that ends at the place end
pub record Lies (slot end number : ℕ) (p : Spot) : Type 0 where
  pub in_slot : p.slot ≡ slot
  pub at_end : number ≡ 1 → p.place ≡ end
  pub inside : (number ≡ 1 → ⊥) → p.place < end

-- what is read of the bytes s at p ends within them
abbrev pub Fits : {X : Type 0} → (X → ℕ) → Spot → List ℕ → Result X NumberFault → Type 0
Fits end p s (Ok x) = end x ≤ length s
Fits end p s (Err f) = Lies p.slot (p.place + length s) (number_number f) (number_spot f)

abbrev pub FitsNumber : {Q : Type 0} → Spot → List ℕ → Number Q → Type 0
FitsNumber p s x = Fits (λ g. g.1) p s x

-- a quantity that ends at the byte end, unless the number at p is out of bounds
abbrev pub bounded : {Q : Type 0} → Spot → ℕ → Result Q OutOfBounds → Number Q
bounded p end x = result_and_then (result_map_err x (λ e. nf.Bounds p)) (λ q. Ok (q, end))

-- the number of the groups g that begin at the byte from
abbrev pub judged : {Q : Type 0} → (ℤ → Result Q OutOfBounds) → Spot → List ℕ → ℕ → Groups → Number Q
judged made p s from g =
    result_and_then (result_map_err g (groups_fault p s from))
    (λ h. bounded (ahead p from) (from + h.1) (made (unfolded h.0)))

judged_fits : {Q : Type 0} (made : ℤ → Result Q OutOfBounds) (p : Spot) (s : List ℕ) (from : ℕ) (g : Groups) → from ≤ length s → Long (drop from s) g → FitsNumber p s (judged made p s from g)
judged_fits made p s from g h l = grind (arith, nat_tests, length-drop {A = ℕ})

pub quantity_fits : {Q : Type 0} (made : ℤ → Result Q OutOfBounds) (p : Spot) (s : List ℕ) (from : ℕ) → from ≤ length s → FitsNumber p s (quantity made p s from)
unfolding quantity
quantity_fits made p s from h = judged_fits made p s from (groups (drop from s)) h (groups_long (drop from s))

pair_fits : (p : Spot) (s : List ℕ) → Fits {X = Demand × Price × ℕ} (λ g. g.2) p s (demand_and_price p s)
unfolding demand_and_price
pair_fits p s = grind (arith, nat_tests, quantity_fits)

-- what a record tells takes at least one of the len bytes from p on, and no more than there are
abbrev pub FitsTold : Spot → ℕ → SlotTold → Type 0
FitsTold p len (Ok g) = (1 ≤ g.1) × (g.1 ≤ len)
FitsTold p len (Err f) = Lies p.slot (p.place + len) (record_number f) (record_spot f)

pub told_fits : (p : Spot) (s : List ℕ) → FitsTold p (length s) (slot_told p s)
unfolding by_lead
told_fits p [] = grind (arith, nat_tests)
told_fits p (lead ∷ s) = grind (arith, nat_tests, quantity_fits, pair_fits)

-- what is told of each slot, and the first fault, after a head or its fault
abbrev pub slots_after : List ℕ → Result Head SheetFault → List Slot
slots_after s x = option_map_or (λ h. (slots_from s h.end).0) (result_ok x) (replicate SLOTS None)

abbrev pub fault_after : List ℕ → Result Head SheetFault → Result (Unit {0}) SheetFault
fault_after s x = result_and_then x (λ h. fault_of_slots s (slots_from s h.end).1)
