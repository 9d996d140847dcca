-- Words and lines of a text that is put together of them.
use Rattle.std.proofs.Common.{◌≡◌, ℕ, suc, ◌+◌, ◌≤◌, Bool, true, false, not, ◌&&◌, ◌==◌, List, [], ◌∷◌, ◌++◌, length, sym, refl, ap, ◌∙◌, append-nil, arith}
use Rattle.std.specs.List.{prefix_len, slice_split}
use Rattle.std.proofs.lemmas.Bool.{and_parts, and_from, lt-ltb}
use Rattle.words.specs.Words.{is_blank, lines_of, uncommented, words_of}

-- a byte that is neither blank nor a comment mark, nor ends a line
abbrev pub plain_byte : ℕ → Bool
plain_byte b = not (is_blank b) && (not (b == 35) && not (b == 10))

abbrev pub plain : List ℕ → Bool
plain [] = true
plain (b ∷ w) = plain_byte b && plain w

-- no byte that ends a line
abbrev pub inline : List ℕ → Bool
inline [] = true
inline (b ∷ w) = not (b == 10) && inline w

-- a word: plain bytes, one at least
pub record Word (w : List ℕ) : Type 0 where
  pub bytes : plain w ≡ true
  pub some : 1 ≤ length w

-- WORDS

mark_after : (b : ℕ) (w : List ℕ) → (b == 35) ≡ false → uncommented (b ∷ w) ≡ b ∷ uncommented w
mark_after b w e =
    let n : ℕ = prefix_len (λ x. not (x == 35)) w in
    let one : 1 + n ≡ suc n = omega arith in
    rw (e, one) refl

uncommented_word : (w u : List ℕ) → plain w ≡ true → uncommented (w ++ u) ≡ w ++ uncommented u
uncommented_word [] u p = refl
uncommented_word (b ∷ w) u p =
    let s = and_parts (plain_byte b) (plain w) p in
    mark_after b (w ++ u) (grind (arith, s.0)) ∙ ap (λ l. b ∷ l) (uncommented_word w u s.1)

split_word : (w u : List ℕ) → plain w ≡ true → slice_split is_blank (w ++ (32 ∷ u)) ≡ w ∷ slice_split is_blank u
split_word [] u p = refl
split_word (b ∷ w) u p =
    let s = and_parts (plain_byte b) (plain w) p in
    let no : is_blank b ≡ false = grind (arith, s.0) in
    rw (no, split_word w u s.1) refl

split_last : (w : List ℕ) → plain w ≡ true → slice_split is_blank w ≡ w ∷ []
split_last [] p = refl
split_last (b ∷ w) p =
    let s = and_parts (plain_byte b) (plain w) p in
    let no : is_blank b ≡ false = grind (arith, s.0) in
    rw (no, split_last w s.1) refl

-- a word, and what follows it
pub word_first : (w u : List ℕ) → Word w → words_of (w ++ (32 ∷ u)) ≡ w ∷ words_of u
word_first w u p =
    let space : uncommented (32 ∷ u) ≡ 32 ∷ uncommented u = mark_after 32 u refl in
    rw (uncommented_word w (32 ∷ u) p.bytes, space, split_word w (uncommented u) p.bytes, lt-ltb 0 (length w) p.some) refl

pub word_last : (w : List ℕ) → Word w → words_of w ≡ w ∷ []
word_last w p =
    let whole : uncommented w ≡ w = ap uncommented (sym (append-nil w)) ∙ uncommented_word w [] p.bytes ∙ append-nil w in
    rw (whole, split_last w p.bytes, lt-ltb 0 (length w) p.some) refl

-- LINES

pub line_first : (l u : List ℕ) → inline l ≡ true → lines_of (l ++ (10 ∷ u)) ≡ l ∷ lines_of u
line_first [] u p = refl
line_first (b ∷ l) u p =
    let s = and_parts (not (b == 10)) (inline l) p in
    let no : (b == 10) ≡ false = grind (arith, s.0) in
    rw (no, line_first l u s.1) refl

pub inline_word : (w : List ℕ) → plain w ≡ true → inline w ≡ true
inline_word [] p = refl
inline_word (b ∷ w) p =
    let s = and_parts (plain_byte b) (plain w) p in
    and_from _ _ (grind (arith, s.0)) (inline_word w s.1)

pub inline_joined : (v w : List ℕ) → inline v ≡ true → inline w ≡ true → inline (v ++ w) ≡ true
inline_joined [] w p q = q
inline_joined (b ∷ v) w p q = let s = and_parts (not (b == 10)) (inline v) p in and_from _ _ s.0 (inline_joined v w s.1 q)

pub plain_joined : (v w : List ℕ) → plain v ≡ true → plain w ≡ true → plain (v ++ w) ≡ true
plain_joined [] w p q = q
plain_joined (b ∷ v) w p q = let s = and_parts (plain_byte b) (plain v) p in and_from _ _ s.0 (plain_joined v w s.1 q)
