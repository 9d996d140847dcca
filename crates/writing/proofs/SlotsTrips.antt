-- Slots, one after another, are read back as they were written, and were written in the one form that is read.
use Rattle.std.proofs.Common.{◌≡◌, ℕ, zero, suc, ◌+◌, ◌<◌, List, [], ◌∷◌, ◌++◌, length, get_or, drop, Ok, Err, Result, sym, refl, ap, ◌∙◌, append_assoc, append-nil, arith, None}
use lib.ListN.{length-replicate}
use Rattle.std.proofs.ByRecursion.{All-drop}
use Rattle.std.proofs.lemmas.List.{drop_at, drop-drop, same_lists, get_or_default}
use Rattle.std.proofs.lemmas.Grind.{common_steps}
use Rattle.std.specs.List.{flat_map, AllByRecursion}
use Rattle.source.specs.Slots.{Slot}
use Rattle.sheet.specs.declared.fault.RecordFault.{RecordFault}
use Rattle.sheet.specs.Slots.{slots_told, spot_at}
use Rattle.writing.specs.Bytes.{slot_bytes, slots_bytes}
use Rattle.writing.proofs.SlotTrips.{slot_back, slot_formed}

-- k slots from i on
unfoldable pub slots_of : (ℕ → Slot) → ℕ → ℕ → List Slot
slots_of m i zero = []
slots_of m i (suc k) = m i ∷ slots_of m (suc i) k

pub length_slots : (m : ℕ → Slot) (i k : ℕ) → length (slots_of m i k) ≡ k
unfolding slots_of
length_slots m i zero = refl
length_slots m i (suc k) = ap suc (length_slots m (suc i) k)

slots_at : (m : ℕ → Slot) (i k j : ℕ) (d : Slot) → j < k → get_or (slots_of m i k) j d ≡ m (i + j)
unfolding slots_of
slots_at m i zero j d h = grind arith
slots_at m i (suc k) zero d h = grind arith
slots_at m i (suc k) (suc j) d h = grind (arith, slots_at m (suc i) k j d)

pub get_or_slots : (m : ℕ → Slot) (k j : ℕ) (d : Slot) → j < k → get_or (slots_of m 0 k) j d ≡ m j
get_or_slots m k j d h = slots_at m 0 k j d h ∙ ap m (omega arith)

-- a list of k slots, each the one of its place
pub slots_same : (m : ℕ → Slot) (k : ℕ) (vs : List Slot) → length vs ≡ k → ((j : ℕ) → j < k → get_or vs j None ≡ m j) → vs ≡ slots_of m 0 k
slots_same m k vs l h =
    same_lists vs (slots_of m 0 k) (l ∙ sym (length_slots m 0 k))
    (λ j d i. get_or_default vs j d None i ∙ (h j (omega arith) ∙ sym (get_or_slots m k j d (omega arith))))

slots_joined_from : (m : ℕ → Slot) (i k : ℕ) → slots_bytes m i ++ flat_map slot_bytes (slots_of m i k) ≡ slots_bytes m (i + k)
unfolding slots_bytes slots_of
slots_joined_from m i zero = grind (arith, append-nil)
slots_joined_from m i (suc k) = grind (arith, append_assoc, slots_joined_from m (suc i) k)

-- the bytes of the first k slots, from the front on
pub slots_joined : (m : ℕ → Slot) (k : ℕ) → flat_map slot_bytes (slots_of m 0 k) ≡ slots_bytes m k
unfolding slots_bytes
slots_joined m k = grind (arith, slots_joined_from m 0 k)

back : (s : List ℕ) (i at : ℕ) (vs : List Slot) (rest : List ℕ) → drop at s ≡ flat_map slot_bytes vs ++ rest
    → slots_told (length vs) s i at ≡ (vs, Ok (at + length (flat_map slot_bytes vs)))
unfolding slots_told
back s i at [] rest e = grind arith
back s i at (v ∷ vs) rest e = grind (arith, common_steps, append_assoc, slot_back (spot_at at i) v, drop-drop (length (slot_bytes v)) at s, drop_at, back s (i + 1) (at + length (slot_bytes v)) vs rest)

-- what was written of k slots is read back, whatever follows it
pub read_back : (k : ℕ) (s : List ℕ) (i at : ℕ) (vs : List Slot) (rest : List ℕ) → length vs ≡ k → drop at s ≡ flat_map slot_bytes vs ++ rest
    → slots_told k s i at ≡ (vs, Ok (at + length (flat_map slot_bytes vs)))
read_back k s i at vs rest l e = ap (λ k. slots_told k s i at) (sym l) ∙ back s i at vs rest e

-- the slots that were read from the place at on stood there in the form that is written
abbrev pub Stood : List ℕ → ℕ → List Slot → Result ℕ RecordFault → Type 0
Stood s at vs (Ok end) = drop at s ≡ flat_map slot_bytes vs ++ drop end s
Stood s at vs (Err f) = Unit {0}

pub slots_stood : (k : ℕ) (s : List ℕ) (i at : ℕ) → AllByRecursion (λ x. x < 256) s → Stood s at (slots_told k s i at).0 (slots_told k s i at).1
unfolding slots_told
slots_stood zero s i at b = refl
slots_stood (suc k) s i at b =
    let r : (n : ℕ) → Stood s (at + n) (slots_told k s (i + 1) (at + n)).0 (slots_told k s (i + 1) (at + n)).1 = λ n. slots_stood k s (i + 1) (at + n) b in
    grind (arith, append_assoc, drop-drop, slot_formed (spot_at at i) (drop at s) (All-drop (λ x. x < 256) at s b), r)

-- with a fault too, k slots are told
pub slots_counted : (k : ℕ) (s : List ℕ) (i at : ℕ) → length (slots_told k s i at).0 ≡ k
unfolding slots_told
slots_counted zero s i at = refl
slots_counted (suc k) s i at = grind (arith, length-replicate {A = Slot}, slots_counted k s (i + 1))
