-- Numbers that are printed are numerals, and are read as themselves.
use Rattle.std.proofs.Common.{◌≡◌, ℕ, ◌+◌, ◌-◌, ◌*◌, ◌/◌, ◌%◌, ◌^◌, ◌<◌, ◌≤◌, Bool, true, false, not, if◌then◌else◌, ◌&&◌, ◌==◌, List, [], ◌∷◌, ◌++◌, length, Some, None, sym, refl, ap, ◌∙◌, append-nil, decimal, length-append, arith}
use Rattle.std.proofs.lemmas.Bool.Decides.{nat_tests}
use Rattle.std.proofs.lemmas.Bool.{and_parts, and_from, eq-eqb, le-ltb, lt-ltb}
use Rattle.std.proofs.lemmas.Fmt.{decimal_by_steps}
use Rattle.std.specs.Char.{is_ascii_digit}
use Rattle.std.specs.List.{position, prefix_len}
use Rattle.words.specs.Numerals.{digits, digits_after}
use Rattle.words.proofs.Tokens.{Word, plain, plain_byte}

abbrev pub all_digits : List ℕ → Bool
all_digits [] = true
all_digits (b ∷ w) = is_ascii_digit b && all_digits w

pub digits_joined : (v w : List ℕ) → all_digits v ≡ true → all_digits w ≡ true → all_digits (v ++ w) ≡ true
digits_joined [] w p q = q
digits_joined (b ∷ v) w p q = let s = and_parts (is_ascii_digit b) (all_digits v) p in and_from _ _ s.0 (digits_joined v w s.1 q)

plain_digit : (b : ℕ) → is_ascii_digit b ≡ true → plain_byte b ≡ true
plain_digit b e = grind (arith, nat_tests)

pub digits_plain : (w : List ℕ) → all_digits w ≡ true → plain w ≡ true
digits_plain [] p = refl
digits_plain (b ∷ w) p = let s = and_parts (is_ascii_digit b) (all_digits w) p in and_from _ _ (plain_digit b s.0) (digits_plain w s.1)

-- one digit after others
one_after : (w : List ℕ) (a v c : ℕ) → all_digits w ≡ true → is_ascii_digit c ≡ true → digits_after a w ≡ Some v → digits_after a (w ++ (c ∷ [])) ≡ Some (v * 10 + (c - 48))
one_after [] a v c p d e = rw d (ap Some (grind (arith, e)))
one_after (b ∷ w) a v c p d e =
    let s = and_parts (is_ascii_digit b) (all_digits w) p in
    let f : digits_after (a * 10 + (b - 48)) w ≡ Some v = ap (λ t. if t then digits_after (a * 10 + (b - 48)) w else None) (sym s.0) ∙ e in
    rw s.0 (one_after w (a * 10 + (b - 48)) v c s.1 d f)

-- a text of digits, one at least, that writes n
pub record Writes (n : ℕ) (w : List ℕ) : Type 0 where
  pub only : all_digits w ≡ true
  pub some : 1 ≤ length w
  pub value : digits_after 0 w ≡ Some n

digit_glyph : (n : ℕ) → n < 10 → is_ascii_digit (48 + n) ≡ true
digit_glyph n l = grind (arith, nat_tests)

pub writes_digit : (n : ℕ) → n < 10 → Writes n ((48 + n) ∷ [])
writes_digit n l = record { only = rw (digit_glyph n l) refl; some = omega arith; value = rw (digit_glyph n l) (ap Some (omega arith)) }

writes_more : (n : ℕ) (w : List ℕ) → 10 ≤ n → Writes (n / 10) w → Writes n (w ++ ((48 + n % 10) ∷ []))
writes_more n w l h =
    let g : is_ascii_digit (48 + n % 10) ≡ true = digit_glyph (n % 10) (omega arith) in
    let v : n / 10 * 10 + (48 + n % 10 - 48) ≡ n = omega arith in
    record {
      only = digits_joined w _ h.only (rw g refl);
      some = omega (arith, h.some, length-append w ((48 + n % 10) ∷ []));
      value = one_after w 0 (n / 10) (48 + n % 10) h.only g h.value ∙ ap Some v;
    }

pub decimal_writes : (n : ℕ) → n < 2 ^ 64 → Writes n (decimal n)
decimal_writes n l = decimal_by_steps Writes writes_digit writes_more n l

pub word_of_digits : (n : ℕ) (w : List ℕ) → Writes n w → Word w
word_of_digits n w h = record { bytes = digits_plain w h.only; some = h.some }

pub digits_read : (n : ℕ) (w : List ℕ) → Writes n w → digits w ≡ Some n
digits_read n [] h = absurd (omega (arith, h.some))
digits_read n (b ∷ w) h = h.value

-- A BYTE THAT IS NO DIGIT

-- digits are passed over
past_digits : (c : ℕ) (w u : List ℕ) → is_ascii_digit c ≡ false → all_digits w ≡ true → prefix_len (λ b. not (b == c)) (w ++ u) ≡ length w + prefix_len (λ b. not (b == c)) u
past_digits c [] u n p = omega arith
past_digits c (b ∷ w) u n p =
    let s = and_parts (is_ascii_digit b) (all_digits w) p in
    let ne : (b == c) ≡ false = grind (arith, nat_tests, s.0, n) in
    rw (ne, past_digits c w u n s.1) (omega arith)

pub no_place : (c : ℕ) (w : List ℕ) → is_ascii_digit c ≡ false → all_digits w ≡ true → position (λ b. b == c) w ≡ None
no_place c w n p =
    let whole : prefix_len (λ b. not (b == c)) w ≡ length w = ap (prefix_len (λ b. not (b == c))) (sym (append-nil w)) ∙ past_digits c w [] n p ∙ omega arith in
    rw (whole, le-ltb (length w) (length w) (omega arith)) refl

pub place_after : (c : ℕ) (w u : List ℕ) → is_ascii_digit c ≡ false → all_digits w ≡ true → position (λ b. b == c) (w ++ (c ∷ u)) ≡ Some (length w)
place_after c w u n p =
    let here : prefix_len (λ b. not (b == c)) (c ∷ u) ≡ 0 = rw (eq-eqb c c refl) refl in
    let front : prefix_len (λ b. not (b == c)) (w ++ (c ∷ u)) ≡ length w = past_digits c w (c ∷ u) n p ∙ omega (arith, here) in
    let l : length w < length (w ++ (c ∷ u)) = omega (arith, length-append w (c ∷ u)) in
    rw (front, lt-ltb (length w) (length (w ++ (c ∷ u))) l) refl
