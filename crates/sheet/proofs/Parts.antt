-- The records that are handed out are the parts of the sheet.
use Rattle.std.proofs.Common.{◌≡◌, ℕ, zero, suc, ◌+◌, ◌≤◌, List, [], ◌∷◌, ◌++◌, length, get_or, drop, take, map, Some, Ok, Err, Result, None, ap, subst, sym, ◌∙◌, refl, arith, add-zero, zero-add, drop_of_length-le, length-append, length-drop, append_assoc, take-append-drop}
use Rattle.std.proofs.lemmas.Bool.Decides.{nat_tests}
use Rattle.std.proofs.lemmas.Grind.{common_steps}
use Rattle.std.proofs.lemmas.List.{drop-drop, length-map}
use Rattle.std.specs.List.{slice_get}
use Rattle.source.specs.declared.slot.TheConstants.{SLOTS}
use Rattle.source.specs.Slots.{Slot}
use Rattle.sheet.specs.declared.fault.RecordFault.{RecordFault}
use Rattle.sheet.specs.declared.fault.SheetFault.{SheetFault}
use Rattle.sheet.specs.declared.fault.Spot.{Spot}
use Rattle.sheet.specs.declared.head.Head.{Head}
use Rattle.sheet.specs.Faults.{record_spot}
use Rattle.sheet.specs.Heads.{head_of}
use Rattle.sheet.specs.Laws.{ByRecords, all_bytes, slots_read}
use Rattle.sheet.specs.Readers.{RecordOrFault, RecordParts, fault_alone, records_from, in_sheet, record_bytes, record_and_later, record_of_bytes, record_telling}
use Rattle.sheet.specs.Records.{slot_told, SlotTold}
use Rattle.sheet.specs.Slots.{slots_told, SlotsTold, slot_and_later, spot_at}
use Rattle.sheet.specs.Sheets.{fault_of_slots, nothing_follows, first_fault, sheet_slots, slots_from}
use Rattle.sheet.proofs.Places.{FitsTold, fault_after, slots_after, told_fits}
use Rattle.sheet.proofs.Telling.{all_told, bytes_long, records, told}

-- a record is the n bytes at the front
bytes_are : (p : Spot) (s : List ℕ) (v : Slot) (n : ℕ) → 1 ≤ n → n ≤ length s → record_bytes (record_of_bytes p s v n) ≡ take n s
bytes_are p [] v n h l = absurd (omega arith)
bytes_are p (b ∷ s) v zero h l = absurd (omega arith)
bytes_are p (b ∷ s) v (suc n) h l = grind (arith, common_steps)

-- the bytes a, and b after them
bytes_after : (s a b : List ℕ) (at n : ℕ) → length a ≡ n → a ≡ take n (drop at s) → drop (at + n) s ≡ b ++ drop (at + n + length b) s
    → drop at s ≡ (a ++ b) ++ drop (at + length (a ++ b)) s
bytes_after s a b at n len is rest =
    let there : at + length (a ++ b) ≡ at + n + length b = omega (arith, length-append a b) in
    let parts : drop at s ≡ a ++ drop (at + n) s = grind (arith, take-append-drop, drop-drop n at s) in
    rw (there, append_assoc, ← rest) parts

-- where the records of k slots from slot i on end, which have n bytes in all
abbrev Ends : ℕ → ℕ → ℕ → ℕ → ℕ → Result ℕ RecordFault → Type 0
Ends k i at count n (Ok end) = (count ≡ k) × (end ≡ at + n)
Ends k i at count n (Err f) = i + count ≡ (record_spot f).slot

-- xs are parts of the sheet s from the place at on, as what is told of their slots has them
record Parts (k : ℕ) (s : List ℕ) (i at : ℕ) (xs : List RecordOrFault) (r : SlotsTold) : Type 0 where
  out : xs ≡ map Ok (records xs) ++ fault_alone (fault_of_slots s r.1)
  bytes : drop at s ≡ all_bytes (records xs) ++ drop (at + length (all_bytes (records xs))) s
  ends : Ends k i at (length (records xs)) (length (all_bytes (records xs))) r.1

ends_more : (k i at n count len : ℕ) (x : Result ℕ RecordFault) → Ends k (i + 1) (at + n) count len x → Ends (suc k) i at (suc count) (n + len) x
ends_more k i at n count len (Ok end) e = grind arith
ends_more k i at n count len (Err f) e = grind arith

-- the record r, and what is handed out after it
parts_after : (k : ℕ) (s : List ℕ) (i at n : ℕ) (r : RecordParts) (v : Slot) (xs : List RecordOrFault) (w : SlotsTold) → length (record_bytes r) ≡ n → record_bytes r ≡ take n (drop at s)
    → Parts k s (i + 1) (at + n) xs w → Parts (suc k) s i at (Ok r ∷ xs) (v ∷ w.0, w.1)
parts_after k s i at n r v xs w len is rest = record {
  out = ap (λ (ys : List RecordOrFault). Ok r ∷ ys) rest.out;
  bytes = bytes_after s (record_bytes r) (all_bytes (records xs)) at n len is rest.bytes;
  ends = rw (length-append (record_bytes r) (all_bytes (records xs)), len) (ends_more k i at n (length (records xs)) (length (all_bytes (records xs))) w.1 rest.ends);
}

parts_more : (k : ℕ) (s : List ℕ) (i at : ℕ) (t : SlotTold) → at ≤ length s → FitsTold (spot_at at i) (length (drop at s)) t
    → ((n : ℕ) → at + n ≤ length s → Parts k s (i + 1) (at + n) (records_from k s (i + 1) (at + n)) (slots_told k s (i + 1) (at + n)))
    → Parts (suc k) s i at (record_and_later (in_sheet (record_telling (spot_at at i) (drop at s) t)) (λ n. records_from k s (i + 1) (at + n))) (slot_and_later k t (λ n. slots_told k s (i + 1) (at + n)))
parts_more k s i at (Ok (v, n)) h f more =
    let r : RecordParts = record_of_bytes (spot_at at i) (drop at s) v n in
    let len : length (record_bytes r) ≡ n = bytes_long (spot_at at i) (drop at s) v n f.0 f.1 in
    let P : ℕ → Type 0 = λ m. Parts k s (i + 1) (at + n) (records_from k s (i + 1) (at + m)) (slots_told k s (i + 1) (at + n)) in
    parts_after k s i at n r v (records_from k s (i + 1) (at + length (record_bytes r))) (slots_told k s (i + 1) (at + n)) len
    (bytes_are (spot_at at i) (drop at s) v n f.0 f.1) (subst P (sym len) (more n (omega (arith, length-drop at s))))
parts_more k s i at (Err f) h g more = grind (arith, common_steps)

parts : (k : ℕ) (s : List ℕ) (i at : ℕ) → at ≤ length s → Parts k s i at (records_from k s i at) (slots_told k s i at)
unfolding records_from slots_told
parts zero s i at h = grind (arith, nat_tests)
parts (suc k) s i at h = parts_more k s i at (slot_told (spot_at at i) (drop at s)) h (told_fits (spot_at at i) (drop at s)) (λ n l. parts k s (i + 1) (at + n) l)

-- r stands in the sheet s at the place at, for slot k
record Stands (s : List ℕ) (k at : ℕ) (r : RecordParts) : Type 0 where
  placed : r.place ≡ at
  read : slot_told (spot_at at k) (drop at s) ≡ Ok (r.tells, length (record_bytes r))

stands_first : (s : List ℕ) (i at n : ℕ) (q r : RecordParts) → q.place ≡ at → slot_told (spot_at at i) (drop at s) ≡ Ok (q.tells, n) → length (record_bytes q) ≡ n
    → Some q ≡ Some r → Stands s (i + 0) (at + 0) r
stands_first s i at n q r place told len is =
    let there : Stands s i at q = record {
      placed = place;
      read = rw len told;
    } in
    let same : q ≡ r = cc in
    let P : RecordParts → Type 0 = λ x. Stands s i at x in
    rw (add-zero i, add-zero at) (subst P same there)

stands_later : (s : List ℕ) (i j at n : ℕ) (q : RecordParts) (rs : List RecordParts) (r : RecordParts) → length (record_bytes q) ≡ n
    → Stands s (i + 1 + j) (at + n + length (all_bytes (take j rs))) r → Stands s (i + suc j) (at + length (all_bytes (take (suc j) (q ∷ rs)))) r
stands_later s i j at n q rs r len there =
    let slot : i + 1 + j ≡ i + suc j = omega arith in
    let place : at + n + length (all_bytes (take j rs)) ≡ at + length (all_bytes (take (suc j) (q ∷ rs))) = omega (arith, length-append (record_bytes q) (all_bytes (take j rs))) in
    let P : ℕ → Type 0 = λ m. Stands s m (at + n + length (all_bytes (take j rs))) r in
    let Q : ℕ → Type 0 = λ m. Stands s (i + suc j) m r in
    subst Q place (subst P slot there)

-- what record j of those that are handed out from slot i and the place at on stands for
abbrev StandsAt : List ℕ → ℕ → ℕ → List RecordOrFault → Type 0
StandsAt s i at xs = (j : ℕ) (r : RecordParts) → slice_get (records xs) j ≡ Some r → Stands s (i + j) (at + length (all_bytes (take j (records xs)))) r

stands_more : (k : ℕ) (s : List ℕ) (i at : ℕ) (t : SlotTold) → slot_told (spot_at at i) (drop at s) ≡ t → at ≤ length s → FitsTold (spot_at at i) (length (drop at s)) t
    → ((n : ℕ) → at + n ≤ length s → StandsAt s (i + 1) (at + n) (records_from k s (i + 1) (at + n)))
    → StandsAt s i at (record_and_later (in_sheet (record_telling (spot_at at i) (drop at s) t)) (λ n. records_from k s (i + 1) (at + n)))
stands_more k s i at (Ok (v, n)) e h f more zero r o =
    stands_first s i at n (record_of_bytes (spot_at at i) (drop at s) v n) r refl e (bytes_long (spot_at at i) (drop at s) v n f.0 f.1) o
stands_more k s i at (Ok (v, n)) e h f more (suc j) r o =
    let q : RecordParts = record_of_bytes (spot_at at i) (drop at s) v n in
    let len : length (record_bytes q) ≡ n = bytes_long (spot_at at i) (drop at s) v n f.0 f.1 in
    let P : ℕ → Type 0 = λ m. StandsAt s (i + 1) (at + n) (records_from k s (i + 1) (at + m)) in
    let rest : StandsAt s (i + 1) (at + n) (records_from k s (i + 1) (at + length (record_bytes q))) = subst P (sym len) (more n (omega (arith, length-drop at s))) in
    stands_later s i j at n q (records (records_from k s (i + 1) (at + length (record_bytes q)))) r len (rest j r o)
stands_more k s i at (Err f) e h g more j r o = absurd (cc)

no_records : (x : Result (Unit {0}) SheetFault) → records (fault_alone x) ≡ []
no_records (Ok _) = refl
no_records (Err f) = refl

stands : (k : ℕ) (s : List ℕ) (i at : ℕ) → at ≤ length s → StandsAt s i at (records_from k s i at)
unfolding records_from
stands zero s i at h j r o =
    let none = rw (no_records (nothing_follows s at)) at o in
    absurd (cc)
stands (suc k) s i at h j r o = stands_more k s i at (slot_told (spot_at at i) (drop at s)) refl h (told_fits (spot_at at i) (drop at s)) (λ n l. stands k s (i + 1) (at + n) l) j r o

counted : (s : List ℕ) (at count n : ℕ) (x : Result ℕ RecordFault) → Ends SLOTS 0 at count n x → count ≡ slots_read (fault_of_slots s x)
counted s at count n (Ok end) e = grind (arith, nat_tests)
counted s at count n (Err f) e = grind arith

whole : (s : List ℕ) (at count n : ℕ) (x : Result ℕ RecordFault) → Ends SLOTS 0 at count n x → fault_of_slots s x ≡ Ok tt → drop (at + n) s ≡ []
whole s at count n (Ok end) e o = grind (arith, nat_tests, drop_of_length-le {A = ℕ})
whole s at count n (Err f) e o = absurd (cc)

told_at : (rs : List RecordParts) (k : ℕ) (r : RecordParts) (rest : List Slot) → slice_get rs k ≡ Some r → get_or (map (λ r. r.tells) rs ++ rest) k None ≡ r.tells
told_at [] k r rest o = absurd (cc)
told_at (q ∷ rs) zero r rest o = grind arith
told_at (q ∷ rs) (suc k) r rest o = told_at rs k r rest o

fault_is : (s : List ℕ) (h : Head) → head_of s ≡ Ok h → first_fault s ≡ fault_of_slots s (slots_told SLOTS s 0 h.end).1
unfolding first_fault slots_from
fault_is s h e = ap (fault_after s) e

slots_are : (s : List ℕ) (h : Head) → head_of s ≡ Ok h → sheet_slots s ≡ (slots_told SLOTS s 0 h.end).0
unfolding sheet_slots slots_from
slots_are s h e = ap (slots_after s) e

-- what is handed out of a sheet is the sheet by its records
pub by_records : (s : List ℕ) (h : Head) → head_of s ≡ Ok h → h.end ≤ length s → ByRecords s (records_from SLOTS s 0 h.end)
by_records s h e l =
    let xs : List RecordOrFault = records_from SLOTS s 0 h.end in
    let w : SlotsTold = slots_told SLOTS s 0 h.end in
    let p : Parts SLOTS s 0 h.end xs w = parts SLOTS s 0 h.end l in
    let fault : first_fault s ≡ fault_of_slots s w.1 = fault_is s h e in
    record {
      head = h;
      headed = e;
      records = records xs;
      hands_out = rw fault p.out;
      counted = rw fault (counted s h.end (length (records xs)) (length (all_bytes (records xs))) w.1 p.ends);
      one_a_slot_at_most = omega (arith, (all_told SLOTS s 0 h.end l).few, length-map {A = RecordParts} {B = Slot});
      left = drop (h.end + length (all_bytes (records xs))) s;
      bytes = rw (← p.bytes) (sym (take-append-drop h.end s));
      whole = λ o. whole s h.end (length (records xs)) (length (all_bytes (records xs))) w.1 p.ends (sym fault ∙ o);
      each = λ k r o.
          let there = stands SLOTS s 0 h.end l k r o in record {
            placed = there.placed;
            read = rw zero-add at there.read;
            told = rw (slots_are s h e, (all_told SLOTS s 0 h.end l).slots) (told_at (records xs) k r _ o);
          };
    }
