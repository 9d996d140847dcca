-- A number that is too large for every bound is read as one that is.
use Rattle.std.proofs.Common.{◌≡◌, ℕ, ◌+◌, ◌*◌, ◌≤◌, ◌<◌, ◌-◌, ◌^◌, min, Bool, true, false, nat_le, if◌then◌else◌, List, [], ◌∷◌, ◌==◌, length, drop, take, get_or, Some, None, Option, sym, refl, ap, ◌∙◌, subst, ⊎_elim, arith}
use Rattle.std.proofs.lemmas.Bool.{cases_lt, le-leb}
use Rattle.std.proofs.Math.Nat.{le-mul_of_pos_right}
use Rattle.std.specs.List.{position}
use Rattle.std.proofs.Math.Seq.{take-length}
use Rattle.std.proofs.lemmas.List.{at_drop_more, length-drop}
use Rattle.std.specs.Char.{is_ascii_digit}
use Rattle.std.specs.Option.{option_map}
use Rattle.words.specs.declared.decimal.TheConstants.{READ_AT_MOST}
use Rattle.words.specs.Numerals.{digits, digits_after, unsigned_numeral}

abbrev pub capped : Option ℕ → Option ℕ
capped o = option_map (min READ_AT_MOST) o

min_again : (n d : ℕ) → min READ_AT_MOST (min READ_AT_MOST n * 10 + d) ≡ min READ_AT_MOST (n * 10 + d)
min_again n d = omega arith

same_more : (n m d : ℕ) → min READ_AT_MOST n ≡ min READ_AT_MOST m → min READ_AT_MOST (n * 10 + d) ≡ min READ_AT_MOST (m * 10 + d)
same_more n m d e = omega (arith, e)

same_if : (t : Bool) (o p : Option ℕ) → capped o ≡ capped p → capped (if t then o else None) ≡ capped (if t then p else None)
same_if true o p e = e
same_if false o p e = refl

-- digits that follow numbers that are capped to the same
pub capped_after : (w : List ℕ) (n m : ℕ) → min READ_AT_MOST n ≡ min READ_AT_MOST m → capped (digits_after n w) ≡ capped (digits_after m w)
capped_after [] n m e = ap Some e
capped_after (b ∷ w) n m e = same_if (is_ascii_digit b) _ _ (capped_after w (n * 10 + (b - 48)) (m * 10 + (b - 48)) (same_more n m (b - 48) e))

-- one digit more
pub digit_more : (w : List ℕ) (i n b : ℕ) → i < length w → get_or w i 0 ≡ b → is_ascii_digit b ≡ true → capped (digits_after n (drop i w)) ≡ capped (digits_after (min (n * 10 + (b - 48)) READ_AT_MOST) (drop (i + 1) w))
digit_more w i n b l e t =
    at_drop_more (λ x. capped (digits_after n x)) w i 0 l ∙ rw (e, t) (capped_after (drop (i + 1) w) (n * 10 + (b - 48)) (min (n * 10 + (b - 48)) READ_AT_MOST) (omega arith))

-- a byte that is no digit ends the number
pub no_digit : (w : List ℕ) (i n b : ℕ) → i < length w → get_or w i 0 ≡ b → is_ascii_digit b ≡ false → capped (digits_after n (drop i w)) ≡ None
no_digit w i n b l e t = at_drop_more (λ x. capped (digits_after n x)) w i 0 l ∙ rw (e, t) refl

-- A NUMERAL WITH DECIMALS

-- numbers that are capped before they are weighed and added come to the same
capped_sum : (n m u t : ℕ) → 1 ≤ u → 1 ≤ t → min (min READ_AT_MOST n * u + min READ_AT_MOST m * t) READ_AT_MOST ≡ min READ_AT_MOST (n * u + m * t)
capped_sum n m u t lu lt = ⊎_elim
    (λ (s : n < READ_AT_MOST). let e : min READ_AT_MOST n ≡ n = omega (arith, s) in rw e (⊎_elim
    (λ (r : m < READ_AT_MOST). let f : min READ_AT_MOST m ≡ m = omega (arith, r) in rw f (omega arith))
    (λ (r : READ_AT_MOST ≤ m). let f : min READ_AT_MOST m ≡ READ_AT_MOST = omega (arith, r) in rw f (omega (arith, r, lt, le-mul_of_pos_right m lt)))
    (cases_lt m READ_AT_MOST)))
    (λ (s : READ_AT_MOST ≤ n). let e : min READ_AT_MOST n ≡ READ_AT_MOST = omega (arith, s) in rw e (omega (arith, s, lu, le-mul_of_pos_right n lu)))
    (cases_lt n READ_AT_MOST)

with_both : (o p : Option ℕ) (n m u t : ℕ) → 1 ≤ u → 1 ≤ t → Some n ≡ capped o → Some m ≡ capped p → (v w : ℕ) × (o ≡ Some v) × (p ≡ Some w) × (min (n * u + m * t) READ_AT_MOST ≡ min READ_AT_MOST (v * u + w * t))
with_both None p n m u t lu lt e f = let z : ◌≡◌ {A = ℕ} 0 1 = cc in absurd (omega arith)
with_both (Some v) None n m u t lu lt e f = let z : ◌≡◌ {A = ℕ} 0 1 = cc in absurd (omega arith)
with_both (Some v) (Some w) n m u t lu lt e f =
    let x : n ≡ min READ_AT_MOST v = cc in
    let y : m ≡ min READ_AT_MOST w = cc in
    (v, w, refl, refl, rw (x, y) (capped_sum v w u t lu lt))

decimals_is : (places k : ℕ) (w : List ℕ) (v y u t : ℕ) → position (λ b. b == 46) w ≡ Some k → nat_le (length (drop (k + 1) w)) places ≡ true → digits (take k w) ≡ Some v → digits (drop (k + 1) w) ≡ Some y → u ≡ 10 ^ places → t ≡ 10 ^ (places - length (drop (k + 1) w)) → unsigned_numeral places w ≡ Some (v * u + y * t)
decimals_is places k w v y u t p l e f g h = rw (p, e, l, f, g, h) refl

-- a whole number and decimals, each read
pub decimals_read : (places k : ℕ) (w : List ℕ) (n m u t : ℕ) → position (λ b. b == 46) w ≡ Some k → length (drop (k + 1) w) ≤ places → Some n ≡ capped (digits (take k w)) → Some m ≡ capped (digits (drop (k + 1) w)) → u ≡ 10 ^ places → t ≡ 10 ^ (places - length (drop (k + 1) w)) → 1 ≤ u → 1 ≤ t → Some (min (n * u + m * t) READ_AT_MOST) ≡ capped (unsigned_numeral places w)
decimals_read places k w n m u t p l e f x y lu lt =
    let b = with_both (digits (take k w)) (digits (drop (k + 1) w)) n m u t lu lt e f in
    ap Some b.4 ∙ sym (ap capped (decimals_is places k w b.0 b.1 u t p (le-leb _ places l) b.2 b.3 x y))

-- what is left of a list is all that is left
pub all_left : (w : List ℕ) (k : ℕ) → take (length w - k) (drop k w) ≡ drop k w
all_left w k = subst (λ (n : ℕ). take n (drop k w) ≡ drop k w) (length-drop k w) (take-length (drop k w))
