-- A sheet of more bytes than a sheet can have is decided without what follows: of the bytes s ++ r, s decides.
use Rattle.std.proofs.Common.{◌≡◌, ℕ, zero, suc, min, ◌+◌, ◌*◌, ◌-◌, ◌<◌, ◌≤◌, List, [], ◌∷◌, ◌++◌, length, drop, take, None, Ok, Err, Result, IfOk, inl, inr, subst, ap, sym, ◌∙◌, refl, arith, length-drop, length-append, take-append-drop}
use Rattle.std.specs.Prelude.{option_and_then, slice_index_or}
use Rattle.std.proofs.lemmas.Bool.{cases_lt}
use Rattle.std.proofs.lemmas.Bool.Decides.{nat_tests}
use Rattle.std.proofs.lemmas.List.{drop-append-le, length-take, take_all, take_min, take-append-le}
use Rattle.units.specs.Chains.{result_and_then}
use Rattle.units.specs.Quantities.{no_net}
use Rattle.std.specs.Option.{option_map_or}
use Rattle.std.specs.Result.{result_ok}
use Rattle.source.specs.Meanings.{Meaning}
use Rattle.source.specs.Slots.{Slot}
use Rattle.source.specs.declared.slot.TheConstants.{SLOTS}
use Rattle.sheet.specs.declared.fault.RecordFault.{RecordFault}
use Rattle.sheet.specs.declared.fault.SheetFault.{SheetFault}
use Rattle.sheet.specs.declared.fault.Spot.{Spot}
use Rattle.sheet.specs.declared.head.Head.{Head}
use Rattle.sheet.specs.declared.input.TheConstants.{DECIDING_BYTES}
use Rattle.sheet.specs.declared.length.TheConstants.{HEAD_BYTES, RECORD_BYTES, SHEET_BYTES}
use Rattle.sheet.specs.Records.{SlotTold, slot_told}
use Rattle.sheet.specs.Heads.{head_of}
use Rattle.sheet.specs.Slots.{slots_told, SlotsTold, slot_and_later, spot_at}
use Rattle.sheet.specs.Sheets.{fault_of_slots, first_fault, nothing_follows, sheet_avoided, sheet_meaning, sheet_net, sheet_slots, slots_from}
use Rattle.sheet.specs.Readers.{RecordOrFault, RecordParts, fault_alone, in_sheet, record_and_later, record_at, record_bytes, record_telling, records_from, records_of_sheet}
use Rattle.sheet.specs.Laws.{DecideSheet}
use Rattle.sheet.proofs.Kept.{Kept, head_kept, told_kept}
use Rattle.sheet.proofs.Places.{fault_after, slots_after}

-- what is told of slot after slot, which ends at the byte n at the latest
record RowKept (n : ℕ) (x y : SlotsTold) : Type 0 where
  same : y ≡ x
  short : IfOk x.1 (λ end. end ≤ n)

row_after : (k n : ℕ) (t : SlotTold) (f g : ℕ → SlotsTold) → IfOk t (λ x. x.1 ≤ RECORD_BYTES) → ((m : ℕ) → m ≤ RECORD_BYTES → RowKept n (f m) (g m))
    → RowKept n (slot_and_later k t f) (slot_and_later k t g)
row_after k n (Ok told) f g h next =
    let rest : RowKept n (f told.1) (g told.1) = next told.1 h in
    record {
      same = ap (λ (w : SlotsTold). let v : SlotsTold = (told.0 ∷ w.0, w.1) in v) rest.same;
      short = rest.short;
    }
row_after k n (Err e) f g h next = record { same = refl; short = tt }

-- the record at the place at of s
here_kept : (s r : List ℕ) (i at : ℕ) → at + RECORD_BYTES ≤ length s → Kept (λ x. x.1) RECORD_BYTES (slot_told (spot_at at i) (drop at s)) (slot_told (spot_at at i) (drop at (s ++ r)))
here_kept s r i at h =
    let b : at ≤ length s = omega arith in
    rw (drop-append-le at s r b) (told_kept (spot_at at i) (drop at s) r (omega (arith, length-drop at s)))

slots_kept : (k n : ℕ) (s r : List ℕ) (i at : ℕ) → at + k * RECORD_BYTES ≤ n → n ≤ length s → RowKept n (slots_told k s i at) (slots_told k (s ++ r) i at)
unfolding slots_told
slots_kept zero n s r i at h l = record { same = refl; short = omega arith }
slots_kept (suc k) n s r i at h l =
    let t = here_kept s r i at (omega arith) in
    rw t.same (row_after k n (slot_told (spot_at at i) (drop at s)) (λ m. slots_told k s (i + 1) (at + m)) (λ m. slots_told k (s ++ r) (i + 1) (at + m)) t.short
    (λ m f. slots_kept k n s r (i + 1) (at + m) (omega arith) l))

-- a byte stands after the last slot
follows_same : (s r : List ℕ) (at : ℕ) → at < length s → nothing_follows (s ++ r) at ≡ nothing_follows s at
follows_same s r at h = grind (arith, nat_tests, length-append {A = ℕ})

-- a record as a reader hands it out
parts_same : (p : Spot) (lead : ℕ) (s r : List ℕ) (t : SlotTold) → IfOk t (λ x. x.1 ≤ RECORD_BYTES) → RECORD_BYTES ≤ length (lead ∷ s) → record_telling p (lead ∷ (s ++ r)) t ≡ record_telling p (lead ∷ s) t
parts_same p lead s r (Ok told) l h =
    let e : take (told.1 - 1) (s ++ r) ≡ take (told.1 - 1) s = take-append-le (told.1 - 1) s r (omega arith) in
    ap (λ (body : List ℕ). let x : Result RecordParts RecordFault = Ok (record { place = p.place; lead = lead; body = body; tells = told.0 }) in x) e
parts_same p lead s r (Err f) l h = refl

parts_short : (p : Spot) (s : List ℕ) (t : SlotTold) → IfOk t (λ x. x.1 ≤ RECORD_BYTES) → IfOk (in_sheet (record_telling p s t)) (λ x. length (record_bytes x) ≤ RECORD_BYTES)
parts_short p s (Ok told) l = omega (arith, length-take (told.1 - 1) (drop 1 s))
parts_short p s (Err f) l = tt

record_same : (p : Spot) (s r : List ℕ) → RECORD_BYTES ≤ length s → record_at p (s ++ r) ≡ record_at p s
record_same p [] r h = absurd (omega arith)
record_same p (lead ∷ s) r h =
    let t = told_kept p (lead ∷ s) r h in
    ap (record_telling p (lead ∷ (s ++ r))) t.same ∙ parts_same p lead s r (slot_told p (lead ∷ s)) t.short h

handed_after : (x : RecordOrFault) (f g : ℕ → List RecordOrFault) → IfOk x (λ x. length (record_bytes x) ≤ RECORD_BYTES) → ((m : ℕ) → m ≤ RECORD_BYTES → g m ≡ f m)
    → record_and_later x g ≡ record_and_later x f
handed_after (Ok x) f g h next = ap (λ (xs : List RecordOrFault). let ys : List RecordOrFault = Ok x ∷ xs in ys) (next (length (record_bytes x)) h)
handed_after (Err e) f g h next = refl

handed_same : (k : ℕ) (s r : List ℕ) (i at : ℕ) → at + k * RECORD_BYTES < length s → records_from k (s ++ r) i at ≡ records_from k s i at
unfolding records_from
handed_same zero s r i at h = ap fault_alone (follows_same s r at (omega arith))
handed_same (suc k) s r i at h =
    let b : at ≤ length s = omega arith in
    let l : RECORD_BYTES ≤ length (drop at s) = omega (arith, length-drop at s) in
    let here : record_at (spot_at at i) (drop at (s ++ r)) ≡ record_at (spot_at at i) (drop at s) = ap (record_at (spot_at at i)) (drop-append-le at s r b) ∙ record_same (spot_at at i) (drop at s) r l in
    rw here (handed_after (in_sheet (record_at (spot_at at i) (drop at s))) (λ m. records_from k s (i + 1) (at + m)) (λ m. records_from k (s ++ r) (i + 1) (at + m))
    (parts_short (spot_at at i) (drop at s) (slot_told (spot_at at i) (drop at s)) (here_kept s r i at (omega arith)).short)
    (λ m f. handed_same k s r (i + 1) (at + m) (omega arith)))

-- what follows the head
fault_from : (s r : List ℕ) (x : Result ℕ RecordFault) (n : ℕ) → IfOk x (λ end. end ≤ n) → n < length s → fault_of_slots (s ++ r) x ≡ fault_of_slots s x
fault_from s r (Ok end) n h l = follows_same s r end (omega arith)
fault_from s r (Err f) n h l = refl

-- what is handed out after a head, or its fault; what is told of its net and its avoided value, with these slots
abbrev records_after : List ℕ → Result Head SheetFault → Result (List RecordOrFault) SheetFault
records_after s x = result_and_then x (λ h. Ok (records_from SLOTS s 0 h.end))

abbrev told_by : List Slot → Result Head SheetFault → Meaning
told_by v x = record { slots = λ k. slice_index_or v k None; zone = option_map_or (λ h. h.zone_net) (result_ok x) no_net; avoided = option_and_then (λ h. h.avoided) (result_ok x) }

module _ (s r : List ℕ) (h : SHEET_BYTES < length s) where
  from_kept : (at : ℕ) → at ≤ HEAD_BYTES → RowKept SHEET_BYTES (slots_from s at) (slots_from (s ++ r) at)
  unfolding slots_from
  from_kept at l = slots_kept SLOTS SHEET_BYTES s r 0 at (omega arith) (omega arith)

  fault_same : (x : Result Head SheetFault) → IfOk x (λ v. v.end ≤ HEAD_BYTES) → fault_after (s ++ r) x ≡ fault_after s x
  fault_same (Ok v) l =
      let k = from_kept v.end l in
      ap (λ (w : SlotsTold). fault_of_slots (s ++ r) w.1) k.same ∙ fault_from s r (slots_from s v.end).1 SHEET_BYTES k.short h
  fault_same (Err f) l = refl

  slots_same : (x : Result Head SheetFault) → IfOk x (λ v. v.end ≤ HEAD_BYTES) → slots_after (s ++ r) x ≡ slots_after s x
  slots_same (Ok v) l = ap (λ (w : SlotsTold). w.0) (from_kept v.end l).same
  slots_same (Err f) l = refl

  records_same : (x : Result Head SheetFault) → IfOk x (λ v. v.end ≤ HEAD_BYTES) → records_after (s ++ r) x ≡ records_after s x
  records_same (Ok v) l = ap (λ (xs : List RecordOrFault). let y : Result (List RecordOrFault) SheetFault = Ok xs in y) (handed_same SLOTS s r 0 v.end (omega arith))
  records_same (Err f) l = refl

  decides : DecideSheet s (s ++ r)
  unfolding first_fault sheet_slots sheet_net sheet_avoided records_of_sheet
  decides =
      let k = head_kept s r (omega arith) in
      record {
        fault = sym (rw k.same (fault_same (head_of s) k.short));
        told = sym (rw k.same (ap (λ (v : List Slot). told_by v (head_of s)) (slots_same (head_of s) k.short)));
        handed_out = sym (rw k.same (records_same (head_of s) k.short));
      }

-- a fault stands among the slots, or after them
past : (s : List ℕ) (x : Result ℕ RecordFault) (n : ℕ) → IfOk x (λ end. end ≤ n) → n < length s → fault_of_slots s x ≡ Ok tt → ⊥
past s (Ok end) n h l e = grind (arith, nat_tests)
past s (Err f) n h l e = cc

too_long : (s : List ℕ) → SHEET_BYTES < length s → (x : Result Head SheetFault) → IfOk x (λ v. v.end ≤ HEAD_BYTES) → fault_after s x ≡ Ok tt → ⊥
too_long s h (Ok v) l e = past s (slots_from s v.end).1 SHEET_BYTES (from_kept s [] h v.end l).short h e
too_long s h (Err f) l e = cc

-- a sheet without a fault has SHEET_BYTES at most
pub no_longer : (s : List ℕ) → first_fault s ≡ Ok tt → length s ≤ SHEET_BYTES
unfolding first_fault
no_longer s e = elim (cases_lt SHEET_BYTES (length s)) [
  | inl l ↦ absurd (too_long s l (head_of s) (head_kept s [] (omega arith)).short e)
  | inr l ↦ l
]

-- any bytes decide themselves
itself : (s : List ℕ) → DecideSheet s s
itself s = record { fault = refl; told = refl; handed_out = refl }

-- the first DECIDING_BYTES of the bytes s, or all, decide s
first_bytes : (s : List ℕ) → DecideSheet (take DECIDING_BYTES s) s
first_bytes s =
    let P : List ℕ → Type 0 = λ t. DecideSheet t s in
    let Q : List ℕ → Type 0 = λ t. DecideSheet (take DECIDING_BYTES s) t in
    elim (cases_lt (length s) DECIDING_BYTES) [
      | inl l ↦ subst P (sym (take_all DECIDING_BYTES s (omega arith))) (itself s)
      | inr l ↦ subst Q (take-append-drop DECIDING_BYTES s) (decides (take DECIDING_BYTES s) (drop DECIDING_BYTES s) (omega (arith, length-take DECIDING_BYTES s)))
    ]

decided : (t s : List ℕ) → t ≡ take DECIDING_BYTES s → DecideSheet t s
decided t s e = rw e (first_bytes s)

-- what is equal to the first DECIDING_BYTES of s decides s
module _ (t s : List ℕ) (e : t ≡ take DECIDING_BYTES s) where
  pub fault_decided : first_fault t ≡ first_fault s
  fault_decided = (decided t s e).fault

  pub told_decided : sheet_meaning t ≡ sheet_meaning s
  told_decided = (decided t s e).told

  pub handed_out_decided : records_of_sheet t ≡ records_of_sheet s
  handed_out_decided = (decided t s e).handed_out

-- as many of the bytes s as there are, but no more than DECIDING_BYTES
pub taken : (n : ℕ) (s : List ℕ) → n ≡ min (length s) DECIDING_BYTES → take n s ≡ take DECIDING_BYTES s
taken n s e =
    let m : n ≡ min DECIDING_BYTES (length s) = omega arith in
    rw m (take_min DECIDING_BYTES s)

-- what shows that bytes decide s, part by part
pub ruleset deciding_bytes = (fault_decided, told_decided, handed_out_decided, taken)
