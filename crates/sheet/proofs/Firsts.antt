-- The first fault of a sheet: its place, and the slots from it on.
use Rattle.std.proofs.Common.{◌≡◌, ℕ, zero, suc, ◌+◌, ◌<◌, ◌≤◌, List, [], ◌∷◌, length, get_or, replicate, Ok, Err, Option, Result, arith, length-drop, None}
use lib.ListN.{length-replicate}
use Rattle.std.proofs.lemmas.List.{get_or-replicate, get_or_past}
use Rattle.std.proofs.lemmas.Bool.Decides.{nat_tests}
use Rattle.source.specs.declared.slot.TheConstants.{SLOTS}
use Rattle.source.specs.Slots.{Slot}
use Rattle.units.specs.declared.price.Price.{Price}
use Rattle.sheet.specs.declared.fault.RecordFault.{RecordFault}
use Rattle.sheet.specs.declared.fault.SheetFault.{SheetFault}
use Rattle.sheet.specs.declared.head.Head.{Head}
use Rattle.sheet.specs.Faults.{record_number, record_spot, fault_number, fault_place, fault_slot}
use Rattle.sheet.specs.Heads.{head_of, opens, opening, avoided_at}
use Rattle.sheet.specs.Laws.{Placed, Silent}
use Rattle.sheet.specs.Slots.{slots_told, SlotsTold}
use Rattle.sheet.specs.Sheets.{slots_from, sheet_slots, first_fault}
use Rattle.sheet.proofs.Places.{Lies, fault_after, quantity_fits, slots_after, told_fits}

none_told : (n k : ℕ) → ◌≡◌ {A = Slot} (get_or (replicate n None) k None) None
none_told n k = grind (arith, nat_tests, get_or-replicate, get_or_past, length-replicate {A = Slot})

-- where the slots from i on end in the sheet s, or where their first fault stands, and what it leaves unreported
abbrev Ended : List ℕ → ℕ → List Slot → Result ℕ RecordFault → Type 0
Ended s i vs (Ok at) = at ≤ length s
Ended s i vs (Err f) = (i ≤ (record_spot f).slot) × Lies (record_spot f).slot (length s) (record_number f) (record_spot f)
    × ((k : ℕ) → (record_spot f).slot ≤ i + k → get_or vs k None ≡ None)

record Runs (n : ℕ) (s : List ℕ) (i : ℕ) (r : SlotsTold) : Type 0 where
  counted : length r.0 ≡ n
  ended : Ended s i r.0 r.1

later : (slot i : ℕ) (v : Slot) (vs : List Slot) → i + 1 ≤ slot → ((k : ℕ) → slot ≤ i + 1 + k → get_or vs k None ≡ None)
    → (k : ℕ) → slot ≤ i + k → get_or (v ∷ vs) k None ≡ None
later slot i v vs l h zero e = absurd (omega arith)
later slot i v vs l h (suc k) e = h k (omega arith)

row_runs : (n : ℕ) (s : List ℕ) (i at : ℕ) → at ≤ length s → Runs n s i (slots_told n s i at)
unfolding slots_told
row_runs zero s i at h = grind arith
row_runs (suc n) s i at h = grind (arith, told_fits, row_runs n s (i + 1), none_told, length-replicate {A = Slot}, length-drop {A = ℕ}, later)

-- fault 1 at the place end, and each other before it
abbrev Put : ℕ → SheetFault → Type 0
Put end f = (fault_number f ≡ 1 → fault_place f ≡ end) × ((fault_number f ≡ 1 → ⊥) → fault_place f < end)

-- the opening, whose bytes are to reach the place need
abbrev Opened : ℕ → ℕ → Result (Unit {0}) SheetFault → Type 0
Opened need end (Ok _) = need ≤ end
Opened need end (Err f) = Put end f

opens_put : (at : ℕ) (want s : List ℕ) → Opened (at + length want) (at + length s) (opens at want s)
opens_put at [] s = omega arith
opens_put at (w ∷ want) [] = grind arith
opens_put at (w ∷ want) (b ∷ s) = grind (arith, nat_tests, opens_put (at + 1) want s)

abbrev GoodAvoided : List ℕ → Result (Option Price × ℕ) SheetFault → Type 0
GoodAvoided s (Ok g) = g.1 ≤ length s
GoodAvoided s (Err f) = Put (length s) f

avoided_good : (s : List ℕ) (at : ℕ) → GoodAvoided s (avoided_at s at)
unfolding avoided_at
avoided_good s at = grind (arith, nat_tests, quantity_fits)

abbrev GoodHead : List ℕ → Result Head SheetFault → Type 0
GoodHead s (Ok h) = h.end ≤ length s
GoodHead s (Err f) = Put (length s) f

head_good : (s : List ℕ) → GoodHead s (head_of s)
unfolding head_of
head_good s = grind (arith, nat_tests, quantity_fits, opens_put 0 opening s, avoided_good)

pub placed : (s : List ℕ) (f : SheetFault) → first_fault s ≡ Err f → Placed s f
unfolding first_fault slots_from
placed s f e = grind (arith, nat_tests, head_good s, row_runs SLOTS s 0)

silent_after : (s : List ℕ) (x : Result Head SheetFault) → GoodHead s x → (f : SheetFault) → fault_after s x ≡ Err f
    → (k : ℕ) → fault_slot f ≤ k → get_or (slots_after s x) k None ≡ None
unfolding slots_from
silent_after s (Ok h) g f e k l = grind (arith, nat_tests, row_runs SLOTS s 0 h.end g, get_or_past)
silent_after s (Err f) g z e k l = none_told SLOTS k

pub silent : (s : List ℕ) (f : SheetFault) → first_fault s ≡ Err f → Silent s f
unfolding first_fault sheet_slots
silent s f e = silent_after s (head_of s) (head_good s) f e
