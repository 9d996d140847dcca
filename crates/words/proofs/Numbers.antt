-- Numbers that are printed with a sign and with decimals are read as themselves.
use Rattle.std.proofs.Common.{◌≡◌, ℕ, suc, ◌+◌, ◌*◌, ◌/◌, ◌%◌, ◌^◌, ◌<◌, ◌≤◌, true, false, ◌==◌, List, [], ◌∷◌, ◌++◌, length, drop, ℤ, pos, negsuc, nat_abs, Some, sym, refl, ap, ◌∙◌, append-nil, decimal, length-append, arith}
use Rattle.std.proofs.Math.Seq.{take-append_seam, drop-append-add}
use Rattle.std.proofs.lemmas.Bool.Decides.{nat_tests}
use Rattle.std.proofs.lemmas.Bool.{and_parts, and_from}
use Rattle.std.specs.Char.{is_ascii_digit}
use Rattle.std.specs.Fmt.{signed_decimal}
use Rattle.std.specs.Str.{bytes_eq}
use Rattle.units.specs.Text.{euros, magnitude as euro_digits}
use Rattle.words.specs.Numerals.{Number, by_point, digits, unsigned_numeral, numeral, integer_of, with_decimals}
use Rattle.words.proofs.Tokens.{Word, plain, plain_joined}
use Rattle.words.proofs.Decimals.{Writes, all_digits, decimal_writes, digits_plain, digits_read, no_place, place_after, word_of_digits, writes_digit}

-- the number of a whole numeral
abbrev pub number : ℤ → Number
number (pos n) = record { negative = false; size = n }
number (negsuc n) = record { negative = true; size = suc n }

pub value_number : (z : ℤ) → integer_of (number z) ≡ z
value_number (pos n) = refl
value_number (negsuc n) = refl

-- a text that is read as the number z with so many places: a digit or a minus sign, and then digits and points
pub record Reads (places : ℕ) (z : ℤ) (w : List ℕ) : Type 0 where
  pub word : Word w
  pub value : numeral places w ≡ Some (number z)
  -- no letter begins it
  pub first : (c : ℕ) (v : List ℕ) → 65 ≤ c → bytes_eq w (c ∷ v) ≡ false

whole_magnitude : (n : ℕ) (w : List ℕ) → Writes n w → unsigned_numeral 0 w ≡ Some n
whole_magnitude n w h = rw (no_place 46 w refl h.only, digits_read n w h) (ap Some (omega arith))

-- digits begin with no letter, whatever follows them
pub no_letter : (w u : List ℕ) → all_digits w ≡ true → 1 ≤ length w → (c : ℕ) (v : List ℕ) → 65 ≤ c → bytes_eq (w ++ u) (c ∷ v) ≡ false
no_letter [] u p l c v m = absurd (omega (arith, l))
no_letter (b ∷ w) u p l c v m =
    let s = and_parts (is_ascii_digit b) (all_digits w) p in
    let ne : (b == c) ≡ false = grind (arith, nat_tests, s.0) in
    rw ne refl

pub digits_first : (n : ℕ) (w : List ℕ) → Writes n w → (c : ℕ) (v : List ℕ) → 65 ≤ c → bytes_eq w (c ∷ v) ≡ false
digits_first n w h c v l = ap (λ x. bytes_eq x (c ∷ v)) (sym (append-nil w)) ∙ no_letter w [] h.only h.some c v l

unsigned : (places n : ℕ) (w : List ℕ) → 1 ≤ length w → ((b : ℕ) (v : List ℕ) → w ≡ b ∷ v → (b == 45) ≡ false) → unsigned_numeral places w ≡ Some n → numeral places w ≡ Some (number (pos n))
unsigned places n [] l f e = absurd (omega (arith, l))
unsigned places n (b ∷ w) l f e = rw (f b w refl, e) refl

first_digit : (w : List ℕ) → all_digits w ≡ true → (b : ℕ) (v u : List ℕ) → 1 ≤ length w → w ++ u ≡ b ∷ v → (b == 45) ≡ false
first_digit [] p b v u l e = absurd (omega (arith, l))
first_digit (a ∷ w) p b v u l e =
    let s = and_parts (is_ascii_digit a) (all_digits w) p in
    let same : a ≡ b = cc in
    grind (arith, nat_tests, s.0, same)

pub signed_read : (z : ℤ) → nat_abs z < 2 ^ 63 → Reads 0 z (signed_decimal z)
signed_read (pos n) l =
    let h = decimal_writes n (omega (arith, l)) in
    record {
      word = word_of_digits n (decimal n) h;
      value = unsigned 0 n (decimal n) h.some (λ b v e. first_digit (decimal n) h.only b v [] h.some (append-nil (decimal n) ∙ e)) (whole_magnitude n (decimal n) h);
      first = digits_first n (decimal n) h;
    }
signed_read (negsuc n) l =
    let h = decimal_writes (suc n) (omega (arith, l)) in
    record {
      word = record { bytes = digits_plain (decimal (suc n)) h.only; some = omega arith };
      value = rw (whole_magnitude (suc n) (decimal (suc n)) h) refl;
      first = λ c v m. let ne : (45 == c) ≡ false = grind (arith, nat_tests) in rw ne refl;
    }

-- EUROS

abbrev cents_digits : ℕ → List ℕ
cents_digits n = (48 + n / 10 % 10) ∷ (48 + n % 10) ∷ []

cents_are_digits : (n : ℕ) → all_digits (cents_digits n) ≡ true
cents_are_digits n =
    let a = (writes_digit (n / 10 % 10) (omega arith)).only in
    let b = (writes_digit (n % 10) (omega arith)).only in
    grind (arith, a, b)

cents_read : (n : ℕ) → digits (cents_digits n) ≡ Some (n / 10 % 10 * 10 + n % 10)
cents_read n =
    let a = and_parts (is_ascii_digit (48 + n / 10 % 10)) (all_digits ((48 + n % 10) ∷ [])) (cents_are_digits n) in
    let b = and_parts (is_ascii_digit (48 + n % 10)) true a.1 in
    rw (a.0, b.0) (ap Some (omega arith))

euro_text : (n : ℕ) → euro_digits n ≡ decimal (n / 100) ++ (46 ∷ cents_digits n)
unfolding euro_digits
euro_text n = refl

euros_magnitude : (n : ℕ) → n / 100 < 2 ^ 64 → unsigned_numeral 2 (euro_digits n) ≡ Some n
euros_magnitude n l =
    let h = decimal_writes (n / 100) l in
    let d : List ℕ = decimal (n / 100) in
    let rest : drop (length d + 1) (d ++ (46 ∷ cents_digits n)) ≡ cents_digits n = drop-append-add d (46 ∷ cents_digits n) 1 in
    ap (unsigned_numeral 2) (euro_text n)
    ∙ ap (by_point 2 (d ++ (46 ∷ cents_digits n))) (place_after 46 d (cents_digits n) refl h.only)
    ∙ ap (λ w. with_decimals 2 (digits w) (drop (length d + 1) (d ++ (46 ∷ cents_digits n)))) (take-append_seam d (46 ∷ cents_digits n))
    ∙ ap (with_decimals 2 (digits d)) rest
    ∙ ap (λ o. with_decimals 2 o (cents_digits n)) (digits_read (n / 100) d h)
    ∙ rw (cents_read n) (ap Some (omega arith))

euro_plain : (n : ℕ) → n / 100 < 2 ^ 64 → plain (euro_digits n) ≡ true
euro_plain n l =
    let h = decimal_writes (n / 100) l in
    ap plain (euro_text n) ∙ plain_joined (decimal (n / 100)) (46 ∷ cents_digits n) (digits_plain (decimal (n / 100)) h.only) (and_from _ _ refl (digits_plain (cents_digits n) (cents_are_digits n)))

euro_long : (n : ℕ) → 1 ≤ length (euro_digits n)
euro_long n = omega (arith, ap length (euro_text n), length-append (decimal (n / 100)) (46 ∷ cents_digits n))

pub euros_read : (z : ℤ) → nat_abs z < 2 ^ 63 → Reads 2 z (euros z)
unfolding euros
euros_read (pos n) l =
    let k : n / 100 < 2 ^ 64 = omega (arith, l) in
    let h = decimal_writes (n / 100) k in
    record {
      word = record { bytes = euro_plain n k; some = euro_long n };
      value = unsigned 2 n (euro_digits n) (euro_long n) (λ b v e. first_digit (decimal (n / 100)) h.only b v (46 ∷ cents_digits n) h.some (sym (euro_text n) ∙ e)) (euros_magnitude n k);
      first = λ c v m. ap (λ w. bytes_eq w (c ∷ v)) (euro_text n) ∙ no_letter (decimal (n / 100)) (46 ∷ cents_digits n) h.only h.some c v m;
    }
euros_read (negsuc n) l =
    let k : suc n / 100 < 2 ^ 64 = omega (arith, l) in
    record {
      word = record { bytes = and_from _ _ refl (euro_plain (suc n) k); some = omega arith };
      value = rw (euros_magnitude (suc n) k) refl;
      first = λ c v m. let ne : (45 == c) ≡ false = grind (arith, nat_tests) in rw ne refl;
    }
