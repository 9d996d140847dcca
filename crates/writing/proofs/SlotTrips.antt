-- The record of a slot is read back as it was written, and was written in the one form that is read.
use Rattle.std.proofs.Common.{◌≡◌, ℕ, ◌+◌, ◌<◌, List, [], ◌∷◌, ◌++◌, length, drop, Some, None, Ok, Err, Option, Result, refl, ap, ◌∙◌, append_assoc, append-nil, arith, length-append}
use Rattle.std.proofs.lemmas.List.{drop_at}
use Rattle.std.proofs.lemmas.Bool.Decides.{nat_tests}
use Rattle.std.proofs.lemmas.Grind.{common_steps}
use Rattle.std.specs.List.{AllByRecursion}
use Rattle.units.specs.declared.demand.Demand.{Demand}
use Rattle.units.specs.declared.price.Price.{Price}
use Rattle.source.specs.Slots.{Slot}
use Rattle.sheet.specs.declared.fault.NumberFault.{NumberFault}
use Rattle.sheet.specs.declared.fault.Spot.{Spot}
use Rattle.sheet.specs.Numbers.{ahead}
use Rattle.sheet.specs.Records.{slot_told, by_lead, SlotTold, demand_and_price, reported_slot}
use Rattle.writing.specs.Bytes.{number_bytes, slot_bytes}
use Rattle.writing.proofs.NumberTrips.{demand_back, price_back, demand_form, price_form}

pair_back : (q : Spot) (s : List ℕ) (d : Demand) (u : Price) (rest : List ℕ) → s ≡ number_bytes d.kw ++ (number_bytes u.cents ++ rest)
    → demand_and_price q s ≡ Ok (d, u, length (number_bytes d.kw) + length (number_bytes u.cents))
unfolding demand_and_price
pair_back q s d u rest e = grind (arith, demand_back q s 0 d (number_bytes u.cents ++ rest), price_back q s (length (number_bytes d.kw)) u rest, drop_at)

-- by the prices formed
reading_back : (p : Spot) (d : Demand) (u v : Option Price) (rest : List ℕ)
    → slot_told p (slot_bytes (reported_slot d u v) ++ rest) ≡ Ok (reported_slot d u v, length (slot_bytes (reported_slot d u v)))
unfolding by_lead
reading_back p d None None rest = grind (arith, common_steps, append_assoc, demand_back)
reading_back p d (Some u) None rest = grind (arith, common_steps, append_assoc, pair_back)
reading_back p d None (Some v) rest = grind (arith, common_steps, append_assoc, pair_back)
reading_back p d (Some u) (Some v) rest =
    let a : List ℕ = number_bytes d.kw in
    let b : List ℕ = number_bytes u.cents in
    let c : List ℕ = number_bytes v.cents in
    let s : List ℕ = (a ++ (b ++ c)) ++ rest in
    let n : ℕ = length a + length b in
    let e : s ≡ a ++ (b ++ (c ++ rest)) = simp append_assoc in
    let f : s ≡ (a ++ b) ++ (c ++ rest) = simp append_assoc in
    let t : drop n s ≡ c ++ rest = ap (drop n) f ∙ drop_at (a ++ b) (c ++ rest) n (length-append a b) in
    grind (arith, length-append, pair_back (ahead p 1) s d u (c ++ rest) e, price_back (ahead p 1) s n v rest t)

-- what was written of a slot is read back, whatever follows it
pub slot_back : (p : Spot) (v : Slot) (rest : List ℕ) → slot_told p (slot_bytes v ++ rest) ≡ Ok (v, length (slot_bytes v))
unfolding by_lead
slot_back p None rest = refl
slot_back p (Some r) rest = reading_back p r.demand r.up r.down rest

-- the two numbers that were read stood there as they are written
abbrev Paired : List ℕ → Result (Demand × Price × ℕ) NumberFault → Type 0
Paired s (Ok g) = s ≡ number_bytes g.0.kw ++ (number_bytes g.1.cents ++ drop g.2 s)
Paired s (Err f) = Unit {0}

-- and so the record
abbrev pub Formed : List ℕ → SlotTold → Type 0
Formed s (Ok g) = s ≡ slot_bytes g.0 ++ drop g.1 s
Formed s (Err f) = Unit {0}

paired : (q : Spot) (s : List ℕ) → AllByRecursion (λ x. x < 256) s → Paired s (demand_and_price q s)
unfolding demand_and_price
paired q s b = grind (arith, demand_form q s 0 b, price_form)

-- a slot that was read stood there in the form that is written
pub slot_formed : (p : Spot) (s : List ℕ) → AllByRecursion (λ x. x < 256) s → Formed s (slot_told p s)
unfolding by_lead
slot_formed p [] b = tt
slot_formed p (lead ∷ s) b = grind (arith, nat_tests, append_assoc, append-nil, demand_form (ahead p 1) s 0 b.1, price_form, paired (ahead p 1) s b.1)
