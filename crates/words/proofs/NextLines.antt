-- The next line of an input.
use Rattle.std.proofs.Common.{◌≡◌, ℕ, suc, ◌-◌, ◌==◌, Bool, true, false, if◌then◌else◌, List, [], ◌∷◌, ◌++◌, length, take, None, Some, IfSome, Option, sym, refl, ap, ap₂, ◌∙◌, ⊎_elim, arith}
use Rattle.std.proofs.lemmas.Bool.{cases_Bool, lt-ltb}
use Rattle.std.specs.Io.BufRead.{DropsThrough, drop_through, ends_with_byte, strip_last, take_through}
use Rattle.std.specs.List.{onto_first}
use Rattle.words.specs.Inputs.{IsNextLine, lines_after}
use Rattle.words.specs.Words.{lines_of}

ends_after : (b : ℕ) (t : List ℕ) → (b == 10) ≡ false → ends_with_byte 10 (b ∷ t) ≡ ends_with_byte 10 t
ends_after b [] e = e
ends_after b (c ∷ t) e =
    let more : length (b ∷ c ∷ t) - 1 ≡ suc (length t) = omega arith in
    let less : length (c ∷ t) - 1 ≡ length t = omega arith in
    let p = lt-ltb 0 (length (b ∷ c ∷ t)) (omega arith) in
    let q = lt-ltb 0 (length (c ∷ t)) (omega arith) in
    rw (more, less, p, q) refl

stripped_by : (b c : ℕ) (t : List ℕ) (x : Bool) → (if x then take (length (b ∷ c ∷ t) - 1) (b ∷ c ∷ t) else (b ∷ c ∷ t)) ≡ b ∷ (if x then take (length (c ∷ t) - 1) (c ∷ t) else (c ∷ t))
stripped_by b c t true =
    let more : length (b ∷ c ∷ t) - 1 ≡ suc (length t) = omega arith in
    let less : length (c ∷ t) - 1 ≡ length t = omega arith in
    rw (more, less) refl
stripped_by b c t false = refl

stripped_after : (b : ℕ) (t : List ℕ) → (b == 10) ≡ false → strip_last 10 (b ∷ t) ≡ b ∷ strip_last 10 t
stripped_after b [] e = ap (λ (x : Bool). if x then take (length (b ∷ []) - 1) (b ∷ []) else (b ∷ [])) (ends_after b [] e)
stripped_after b (c ∷ t) e = ap (λ (x : Bool). if x then take (length (b ∷ c ∷ t) - 1) (b ∷ c ∷ t) else (b ∷ c ∷ t)) (ends_after b (c ∷ t) e) ∙ stripped_by b c t (ends_with_byte 10 (c ∷ t))

-- the first line of the bytes, without its end, and the others
cut : (bytes : List ℕ) → lines_of bytes ≡ strip_last 10 (take_through 10 bytes) ∷ lines_after (ends_with_byte 10 (take_through 10 bytes)) (drop_through 10 bytes)
cut [] = refl
cut (b ∷ bytes) = ⊎_elim
    (λ (e : (b == 10) ≡ true).
    let front : take_through 10 (b ∷ bytes) ≡ b ∷ [] = rw e refl in
    let rest : drop_through 10 (b ∷ bytes) ≡ bytes = rw e refl in
    let whole : lines_of (b ∷ bytes) ≡ [] ∷ lines_of bytes = rw e refl in
    let none : strip_last 10 (b ∷ []) ≡ [] = ap (λ (x : Bool). if x then take (length (b ∷ []) - 1) (b ∷ []) else (b ∷ [])) e in
    whole ∙ ap₂ (λ x y. x ∷ y) (sym (ap (strip_last 10) front ∙ none)) (sym (ap₂ lines_after (ap (ends_with_byte 10) front ∙ e) rest)))
    (λ (e : (b == 10) ≡ false).
    let front : take_through 10 (b ∷ bytes) ≡ b ∷ take_through 10 bytes = rw e refl in
    let rest : drop_through 10 (b ∷ bytes) ≡ drop_through 10 bytes = rw e refl in
    let whole : lines_of (b ∷ bytes) ≡ onto_first b (lines_of bytes) = rw e refl in
    whole ∙ ap (onto_first b) (cut bytes)
    ∙ ap₂ (λ x y. x ∷ y) (sym (ap (strip_last 10) front ∙ stripped_after b (take_through 10 bytes) e)) (sym (ap₂ lines_after (ap (ends_with_byte 10) front ∙ ends_after b (take_through 10 bytes) e) rest)))
    (cases_Bool (b == 10))

pub next_of : (known left : Option (List ℕ)) (old read line : List ℕ) (more : Bool) → old ≡ [] → IfSome known (λ xs. read ≡ old ++ take_through 10 xs) → DropsThrough known left 10 → more ≡ ends_with_byte 10 read → line ≡ strip_last 10 read → IsNextLine known line more left
next_of None left old read line more empty got rest m l = tt
next_of (Some bytes) left old read line more empty got rest m l =
    let r : read ≡ take_through 10 bytes = got ∙ ap (λ x. x ++ take_through 10 bytes) empty in
    (cut bytes ∙ sym (ap₂ (λ x y. x ∷ y) (l ∙ ap (strip_last 10) r) (ap (λ x. lines_after x (drop_through 10 bytes)) (m ∙ ap (ends_with_byte 10) r))), rest)
