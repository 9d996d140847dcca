-- What a number, a record and a head say of the bytes s ++ r, where s has as many as they can take: what they say of s.
use Rattle.std.proofs.Common.{◌≡◌, ℕ, ◌+◌, ◌*◌, ◌<◌, ◌≤◌, List, [], ◌∷◌, ◌++◌, length, drop, ℤ, Bool, true, false, None, Ok, Err, Result, IfOk, ap, ◌∙◌, refl, arith, length-drop, length-append}
use Rattle.std.specs.Prelude.{if◌then◌else◌, ◌==◌, Option, slice_index}
use Rattle.std.proofs.lemmas.Bool.Decides.{nat_tests}
use Rattle.std.proofs.lemmas.List.{drop-append-le, get_or_append_left}
use Rattle.units.specs.declared.bounds.OutOfBounds.{OutOfBounds}
use Rattle.units.specs.declared.price.Price.{Price}
use Rattle.units.specs.Chains.{result_and_then, result_map_err}
use Rattle.units.specs.Quantities.{demand_of, price_of, zone_net_of}
use Rattle.source.specs.Slots.{Slot}
use Rattle.sheet.specs.declared.fault.RecordFault.TheVariants as rf
use Rattle.sheet.specs.declared.fault.SheetFault.{SheetFault}
use Rattle.sheet.specs.declared.fault.SheetFault.TheVariants as sf
use Rattle.sheet.specs.declared.fault.Spot.{Spot}
use Rattle.sheet.specs.declared.length.TheConstants.{AVOIDED_BYTES, HEAD_BYTES, NUMBER_BYTES, RECORD_BYTES}
use Rattle.sheet.specs.declared.number.GroupsFault.TheVariants as gf
use Rattle.sheet.specs.Groups.{Groups, groups}
use Rattle.sheet.specs.Numbers.{ahead, quantity}
use Rattle.sheet.specs.Records.{demand_and_price, slot_told, by_lead}
use Rattle.sheet.specs.Heads.{avoided_at, by_flag, front, head_of, opening, opens}
use Rattle.sheet.proofs.Places.{judged}

-- y is what x is, and where that is a value it ends at the byte n at the latest
pub record Kept {X E : Type 0} (end : X → ℕ) (n : ℕ) (x y : Result X E) : Type 0 where
  pub same : y ≡ x
  pub short : IfOk x (λ v. end v ≤ n)

kept : {X E : Type 0} (end : X → ℕ) (n : ℕ) (v : X) → end v ≤ n → Kept {X = X} {E = E} end n (Ok v) (Ok v)
kept end n v h = record { same = refl; short = h }

refused : {X E : Type 0} (end : X → ℕ) (n : ℕ) (e : E) → Kept {X = X} {E = E} end n (Err e) (Err e)
refused end n e = record { same = refl; short = tt }

-- one of two, by a test
either : {X E : Type 0} {end : X → ℕ} {n : ℕ} {x y z w : Result X E} (b : Bool) → Kept end n x y → Kept end n z w → Kept end n (if b then x else z) (if b then y else w)
either true k l = k
either false k l = l

-- one after another
after : {X Y E : Type 0} (end : X → ℕ) (n : ℕ) (last : Y → ℕ) (m : ℕ) (f g : X → Result Y E) (x : Result X E) → IfOk x (λ v. end v ≤ n)
    → ((v : X) → end v ≤ n → Kept last m (f v) (g v)) → Kept last m (result_and_then x f) (result_and_then x g)
after end n last m f g (Ok v) h k = k v h
after end n last m f g (Err e) h k = refused last m e

chain : {X Y E : Type 0} {end : X → ℕ} {n : ℕ} {last : Y → ℕ} {m : ℕ} {x y : Result X E} (f g : X → Result Y E) → Kept end n x y
    → ((v : X) → end v ≤ n → Kept last m (f v) (g v)) → Kept last m (result_and_then x f) (result_and_then y g)
chain {end = end} {n = n} {last = last} {m = m} {x = x} {y = y} f g k next = rw k.same (after end n last m f g x k.short next)

-- a fault as another tells it
told_as : {X E F : Type 0} (end : X → ℕ) (n : ℕ) (f : E → F) (x : Result X E) → IfOk x (λ v. end v ≤ n) → Kept end n (result_map_err x f) (result_map_err x f)
told_as end n f (Ok v) h = kept end n v h
told_as end n f (Err e) h = refused end n (f e)

renamed : {X E F : Type 0} {end : X → ℕ} {n : ℕ} {x y : Result X E} (f : E → F) → Kept end n x y → Kept end n (result_map_err x f) (result_map_err y f)
renamed {end = end} {n = n} {x = x} f k = rw k.same (told_as end n f x k.short)

any_end : (x : Result (Unit {0}) SheetFault) → IfOk x (λ v. 0 ≤ 0)
any_end (Ok v) = omega arith
any_end (Err e) = tt

-- groups that the bytes do not end in, of no more bytes than a number has
abbrev Whole : Groups → Type 0
Whole (Ok g) = g.1 ≤ NUMBER_BYTES
Whole (Err gf.Ends) = ⊥
Whole (Err gf.Form) = Unit {0}

groups_whole : (s : List ℕ) → NUMBER_BYTES ≤ length s → Whole (groups s)
groups_whole [] h = absurd (omega arith)
groups_whole (a ∷ []) h = absurd (omega arith)
groups_whole (a ∷ b ∷ []) h = absurd (omega arith)
groups_whole (a ∷ b ∷ c ∷ []) h = absurd (omega arith)
groups_whole (a ∷ b ∷ c ∷ d ∷ s) h = grind (arith, nat_tests)

groups_same : (s r : List ℕ) → NUMBER_BYTES ≤ length s → groups (s ++ r) ≡ groups s
groups_same [] r h = absurd (omega arith)
groups_same (a ∷ []) r h = absurd (omega arith)
groups_same (a ∷ b ∷ []) r h = absurd (omega arith)
groups_same (a ∷ b ∷ c ∷ []) r h = absurd (omega arith)
groups_same (a ∷ b ∷ c ∷ d ∷ s) r h = refl

judged_same : {Q : Type 0} (made : ℤ → Result Q OutOfBounds) (p : Spot) (s t : List ℕ) (from : ℕ) (g : Groups) → Whole g → judged made p t from g ≡ judged made p s from g
judged_same made p s t from (Ok g) h = refl
judged_same made p s t from (Err gf.Ends) h = absurd h
judged_same made p s t from (Err gf.Form) h = refl

judged_short : {Q : Type 0} (made : ℤ → Result Q OutOfBounds) (p : Spot) (s : List ℕ) (from : ℕ) (g : Groups) → Whole g → IfOk (judged made p s from g) (λ x. x.1 ≤ from + NUMBER_BYTES)
judged_short made p s from g h = grind (arith, nat_tests)

-- a number that begins at the byte from of s, where s reaches as far as a number does
quantity_kept : {Q : Type 0} (made : ℤ → Result Q OutOfBounds) (p : Spot) (s r : List ℕ) (from : ℕ) → from + NUMBER_BYTES ≤ length s
    → Kept (λ x. x.1) (from + NUMBER_BYTES) (quantity made p s from) (quantity made p (s ++ r) from)
unfolding quantity
quantity_kept made p s r from h =
    let l : NUMBER_BYTES ≤ length (drop from s) = omega (arith, length-drop from s) in
    let b : from ≤ length s = omega arith in
    let e : groups (drop from (s ++ r)) ≡ groups (drop from s) = ap groups (drop-append-le from s r b) ∙ groups_same (drop from s) r l in
    let w : Whole (groups (drop from s)) = groups_whole (drop from s) l in
    record {
      same = ap (judged made p (s ++ r) from) e ∙ judged_same made p s (s ++ r) from (groups (drop from s)) w;
      short = judged_short made p s from (groups (drop from s)) w;
    }

-- a demand and the price after it
pair_kept : (p : Spot) (s r : List ℕ) → 2 * NUMBER_BYTES ≤ length s → Kept (λ x. x.2) (2 * NUMBER_BYTES) (demand_and_price p s) (demand_and_price p (s ++ r))
unfolding demand_and_price
pair_kept p s r h =
    chain _ _ (quantity_kept demand_of p s r 0 (omega arith)) (λ demand l.
    chain _ _ (quantity_kept price_of p s r demand.1 (omega arith)) (λ price k.
    kept (λ x. x.2) (2 * NUMBER_BYTES) (demand.0, price.0, price.1) (omega arith)))

-- the numbers that a lead byte announces
led_kept : (p q : Spot) (lead : ℕ) (s r : List ℕ) → 3 * NUMBER_BYTES ≤ length s → Kept (λ x. x.1) RECORD_BYTES (by_lead p q lead s) (by_lead p q lead (s ++ r))
unfolding by_lead
led_kept p q lead s r h =
    let end : Slot × ℕ → ℕ = λ x. x.1 in
    let pair = renamed rf.Number (pair_kept q s r (omega arith)) in
    either (lead == 0) (kept end RECORD_BYTES (None, 1) (omega arith))
    (either (lead == 1) (chain _ _ (renamed rf.Number (quantity_kept demand_of q s r 0 (omega arith))) (λ d l. kept end RECORD_BYTES _ (omega arith)))
    (either (lead == 2) (chain _ _ pair (λ g l. kept end RECORD_BYTES _ (omega arith)))
    (either (lead == 3) (chain _ _ pair (λ g l. kept end RECORD_BYTES _ (omega arith)))
    (either (lead == 4) (chain _ _ pair (λ g l. chain _ _ (renamed rf.Number (quantity_kept price_of q s r g.2 (omega arith))) (λ d k. kept end RECORD_BYTES _ (omega arith))))
    (refused end RECORD_BYTES (rf.Lead p))))))

-- a record at the front
pub told_kept : (p : Spot) (s r : List ℕ) → RECORD_BYTES ≤ length s → Kept (λ x. x.1) RECORD_BYTES (slot_told p s) (slot_told p (s ++ r))
told_kept p [] r h = absurd (omega arith)
told_kept p (lead ∷ s) r h = led_kept p (ahead p 1) lead s r (omega arith)

-- the opening, byte by byte
opens_same : (at : ℕ) (want s r : List ℕ) → length want ≤ length s → opens at want (s ++ r) ≡ opens at want s
opens_same at [] s r h = refl
opens_same at (w ∷ want) [] r h = absurd (omega arith)
opens_same at (w ∷ want) (b ∷ s) r h = ap (λ (x : Result (Unit {0}) SheetFault). if b == w then x else Err (sf.Opening at)) (opens_same (at + 1) want s r (omega arith))

flag_kept : (s r : List ℕ) (at flag : ℕ) → at + AVOIDED_BYTES ≤ length s → Kept (λ x. x.1) (at + AVOIDED_BYTES) (by_flag s at flag) (by_flag (s ++ r) at flag)
flag_kept s r at flag h =
    let end : Option Price × ℕ → ℕ = λ x. x.1 in
    either (flag == 0) (kept end (at + AVOIDED_BYTES) (None, at + 1) (omega arith))
    (either (flag == 1) (chain _ _ (renamed sf.Head (quantity_kept price_of front s r (at + 1) (omega arith))) (λ price l. kept end (at + AVOIDED_BYTES) _ (omega arith)))
    (refused end (at + AVOIDED_BYTES) (sf.Flag at)))

-- the flag at the place at, and the avoided value after it
avoided_there : (s : List ℕ) (at : ℕ) → at < length s → avoided_at s at ≡ by_flag s at (slice_index s at)
unfolding avoided_at
avoided_there s at h = grind (arith, nat_tests)

avoided_kept : (s r : List ℕ) (at : ℕ) → at + AVOIDED_BYTES ≤ length s → Kept (λ x. x.1) (at + AVOIDED_BYTES) (avoided_at s at) (avoided_at (s ++ r) at)
avoided_kept s r at h =
    let i : at < length s = omega arith in
    rw (avoided_there s at i, avoided_there (s ++ r) at (omega (arith, length-append s r)), get_or_append_left s r 0 at i) (flag_kept s r at (slice_index s at) h)

-- the whole head
pub head_kept : (s r : List ℕ) → HEAD_BYTES ≤ length s → Kept (λ h. h.end) HEAD_BYTES (head_of s) (head_of (s ++ r))
unfolding head_of
head_kept s r h =
    let opened : Kept (λ x. 0) 0 (opens 0 opening s) (opens 0 opening (s ++ r)) = record { same = opens_same 0 opening s r (omega arith); short = any_end (opens 0 opening s) } in
    chain _ _ opened (λ x l.
    chain _ _ (renamed sf.Head (quantity_kept zone_net_of front s r 4 (omega arith))) (λ net k.
    chain _ _ (avoided_kept s r net.1 (omega arith)) (λ avoided j.
    kept (λ x. x.end) HEAD_BYTES _ (omega arith))))
