-- What the records that are handed out tell, and how their reading ends.
use Rattle.std.proofs.Common.{◌≡◌, ℕ, zero, suc, ◌+◌, ◌-◌, ◌<◌, ◌≤◌, List, [], ◌∷◌, ◌++◌, length, drop, take, set, replicate, map, Ok, Err, Result, None, ap, sym, ◌∙◌, refl, arith, length-drop, length-append, length-set, length-take, append_assoc, append-nil, take-append-drop, drop-set-lt}
use Rattle.std.proofs.lemmas.Bool.Decides.{nat_tests}
use lib.ListN.{length-replicate}
use Rattle.std.proofs.lemmas.List.{drop-drop, drop-replicate, take_more_set}
use Rattle.std.proofs.lemmas.List.Edits.{length-between}
use Rattle.source.specs.declared.slot.TheConstants.{SLOTS}
use Rattle.source.specs.Slots.{Slot}
use Rattle.sheet.specs.declared.fault.SheetFault.{SheetFault}
use Rattle.sheet.specs.declared.fault.Spot.{Spot}
use Rattle.sheet.specs.Readers.{RecordOrFault, RecordParts, records_from, in_sheet, record_bytes, record_and_later, record_of_bytes, record_telling}
use Rattle.sheet.specs.Records.{slot_told, SlotTold}
use Rattle.sheet.specs.Slots.{slots_told, SlotsTold, slot_and_later, spot_at}
use Rattle.sheet.specs.Sheets.{fault_of_slots, slots_from}
use Rattle.sheet.proofs.Places.{FitsTold, told_fits}

-- the records that are handed out before the first fault
abbrev pub records : List RecordOrFault → List RecordParts
records [] = []
records (Ok r ∷ xs) = r ∷ records xs
records (Err f ∷ xs) = []

-- what they tell
abbrev pub told : List RecordOrFault → List Slot
told xs = map (λ r. r.tells) (records xs)

-- how the reading ends
abbrev pub ending : List RecordOrFault → Result (Unit {0}) SheetFault
ending [] = Ok tt
ending (Ok r ∷ xs) = ending xs
ending (Err f ∷ xs) = Err f

-- a record has the bytes that its numbers take, and its lead byte
pub bytes_long : (p : Spot) (s : List ℕ) (v : Slot) (n : ℕ) → 1 ≤ n → n ≤ length s → length (record_bytes (record_of_bytes p s v n)) ≡ n
bytes_long p s v n h l = grind (arith, length-between s 1 n)

-- xs tell k slots as they are told, and end as it does
pub record Tells (k : ℕ) (s : List ℕ) (xs : List RecordOrFault) (r : SlotsTold) : Type 0 where
  pub few : length (told xs) ≤ k
  pub slots : r.0 ≡ told xs ++ replicate (k - length (told xs)) None
  pub ends : fault_of_slots s r.1 ≡ ending xs

tells_more : (k : ℕ) (s : List ℕ) (i at : ℕ) (t : SlotTold) → at ≤ length s → FitsTold (spot_at at i) (length (drop at s)) t
    → ((n : ℕ) → at + n ≤ length s → Tells k s (records_from k s (i + 1) (at + n)) (slots_told k s (i + 1) (at + n)))
    → Tells (suc k) s (record_and_later (in_sheet (record_telling (spot_at at i) (drop at s) t)) (λ n. records_from k s (i + 1) (at + n))) (slot_and_later k t (λ n. slots_told k s (i + 1) (at + n)))
tells_more k s i at (Ok (v, n)) h f more =
    let e : length (record_bytes (record_of_bytes (spot_at at i) (drop at s) v n)) ≡ n = bytes_long (spot_at at i) (drop at s) v n f.0 f.1 in
    let rest : Tells k s (records_from k s (i + 1) (at + n)) (slots_told k s (i + 1) (at + n)) = more n (omega (arith, length-drop at s)) in
    rw e (record {
      few = omega (arith, rest.few);
      slots = grind (arith, rest.slots);
      ends = rest.ends;
    })
tells_more k s i at (Err f) h g more = record {
  few = omega arith;
  slots = let n : suc k ≡ suc k - 0 = omega arith in ap (λ (j : ℕ). replicate {A = Slot} j None) n;
  ends = refl;
}

pub all_told : (k : ℕ) (s : List ℕ) (i at : ℕ) → at ≤ length s → Tells k s (records_from k s i at) (slots_told k s i at)
unfolding records_from slots_told
all_told zero s i at h = grind (arith, nat_tests)
all_told (suc k) s i at h =
    tells_more k s i at (slot_told (spot_at at i) (drop at s)) h (told_fits (spot_at at i) (drop at s)) (λ n l. all_told k s (i + 1) (at + n) l)

-- the same of all slots
pub sheet_told : (s : List ℕ) (at : ℕ) → at ≤ length s → Tells SLOTS s (records_from SLOTS s 0 at) (slots_from s at)
unfolding slots_from
sheet_told s at h = all_told SLOTS s 0 at h

-- of what is handed out in all, some is left, and the k records before it are told in out
pub record Sofar (all left : List RecordOrFault) (k : ℕ) (out : List Slot) : Type 0 where
  pub few : length (told all) ≤ SLOTS
  pub size : length out ≡ SLOTS
  pub within : k ≤ SLOTS
  pub slots : told all ≡ take k out ++ told left
  pub rest : drop k out ≡ replicate (SLOTS - k) None
  pub ends : ending all ≡ ending left

pub all_left : (xs : List RecordOrFault) (out : List Slot) → length (told xs) ≤ SLOTS → out ≡ replicate SLOTS None → Sofar xs xs 0 out
all_left xs out few e = grind (arith, length-replicate {A = Slot})

pub room : {all left : List RecordOrFault} {k : ℕ} {out : List Slot} (r : RecordParts) → Sofar all (Ok r ∷ left) k out → k < SLOTS
room {all} {left} {k} {out} r f =
    let e : length (told all) ≡ length (take k out ++ told (Ok r ∷ left)) = ap length f.slots in
    omega (arith, e, length-append (take k out) (told (Ok r ∷ left)), length-take {A = Slot}, f.few, f.size, f.within)

-- one record more
pub more : {all before left : List RecordOrFault} {k : ℕ} {out : List Slot} (r : RecordParts) (v : Slot) → before ≡ Ok r ∷ left → v ≡ r.tells
    → Sofar all before k out → Sofar all left (k + 1) (set out k v)
more {all} {before} {left} {k} {out} r v e w f =
    let g : Sofar all (Ok r ∷ left) k out = rw e at f in
    let here : k < SLOTS = room r g in
    record {
      few = g.few;
      size = length-set out k v ∙ g.size;
      within = omega arith;
      slots = grind (arith, g.slots, g.size, take_more_set, append_assoc);
      rest = grind (arith, g.rest, drop-set-lt, drop-drop 1 k out, drop-replicate {X = Slot} 1 (SLOTS - k));
      ends = g.ends;
    }

-- the slots that no record told stay unreported
filled : {all left : List RecordOrFault} {k : ℕ} {out : List Slot} → records left ≡ [] → Sofar all left k out → out ≡ told all ++ replicate (SLOTS - length (told all)) None
filled {all} {left} {k} {out} e f =
    let slots : told all ≡ take k out = grind (arith, f.slots, e, append-nil) in
    let count : length (told all) ≡ k = omega (arith, ap length slots, length-take {A = Slot}, f.size, f.within) in
    rw (count, slots, ← f.rest, take-append-drop) refl

-- at the end all slots are told
pub all_filled : (s : List ℕ) (at : ℕ) (left : List RecordOrFault) (k : ℕ) (out : List Slot) → at ≤ length s → records left ≡ []
    → Sofar (records_from SLOTS s 0 at) left k out → out ≡ (slots_from s at).0
all_filled s at left k out h e f = filled e f ∙ sym (sheet_told s at h).slots
