-- One word is read, and then those after it.
use Rattle.std.proofs.Common.{◌≡◌, ℕ, ◌+◌, ◌<◌, ◌≤◌, Ok, Bool, true, List, map, drop, length, Some, Option, sym, subst, String, Global, slice_index_or}
use Rattle.std.proofs.lemmas.List.{at_drop_all, at_drop_more}
use Rattle.std.specs.String.{string_bytes}
use Rattle.command.specs.Requests.{answer, by_word, input_file, reading, word_of}
use Rattle.command.specs.declared.request.Takes.{Takes}
use Rattle.command.specs.declared.request.Word.{Word}

-- what the words from the i-th on ask for, where that word has the bytes w and is k
abbrev After : Takes → Option (List ℕ) → Bool → List (String Global) → ℕ → List ℕ → Word → Type 0
After takes file strict ws i w k =
    reading takes file strict (map string_bytes (drop i ws)) ≡ by_word k w file (reading takes file true (map string_bytes (drop (i + 1) ws))) (reading takes (Some w) strict (map string_bytes (drop (i + 1) ws)))

first : (takes : Takes) (file : Option (List ℕ)) (strict : Bool) (ws : List (String Global)) (i : ℕ) (x : String Global) → i < length ws
    → After takes file strict ws i (string_bytes (slice_index_or ws i x)) (word_of takes (string_bytes (slice_index_or ws i x)))
unfolding reading
first takes file strict ws i x h = at_drop_more (λ l. reading takes file strict (map string_bytes l)) ws i x h

pub read_on : (takes : Takes) (file : Option (List ℕ)) (strict : Bool) (ws : List (String Global)) (i : ℕ) (x : String Global) (w : List ℕ) (k : Word) → i < length ws → x ≡ slice_index_or ws i x → w ≡ string_bytes x → k ≡ word_of takes w
    → After takes file strict ws i w k
read_on takes file strict ws i x w k h e f g =
    let a = subst (λ y. After takes file strict ws i (string_bytes y) (word_of takes (string_bytes y))) (sym e) (first takes file strict ws i x h) in
    let b = subst (λ v. After takes file strict ws i v (word_of takes v)) (sym f) a in
    subst (After takes file strict ws i w) (sym g) b

pub all_read : (takes : Takes) (file : Option (List ℕ)) (strict : Bool) (ws : List (String Global)) (i : ℕ) → length ws ≤ i
    → reading takes file strict (map string_bytes (drop i ws)) ≡ Ok (answer (input_file file) strict)
unfolding reading
all_read takes file strict ws i h = at_drop_all (λ l. reading takes file strict (map string_bytes l)) ws i h
