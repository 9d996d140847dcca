-- What stands at the words of a line. P are the problems for which a word is refused.
use Rattle.std.specs.Borrow.{Bor}
use Rattle.std.specs.Prelude.{ℕ, Bool, false, List, length, Ok, nat_le, ok_or, slice_get, if◌then◌else◌}
use Rattle.std.specs.Option.{option_map_or}
use Rattle.std.specs.Str.{bytes_eq}
use Rattle.units.specs.Chains.{result_and_then}
use Rattle.words.specs.Faults.{ReadOrFault, at_word, fault_at}
use Rattle.words.specs.Numerals.{Number, number_of, numeral}
use Rattle.words.specs.Words.{between_blanks}
use Rattle.words.specs.declared.line.Line.{Line}
use Rattle.words.specs.declared.numeral.Numeral.{Numeral}

-- the words of a line, each as its bytes
abbrev pub Words : Type 0
Words = List (List ℕ)

-- the words of a line of the code
abbrev pub words_in : Line → Words
words_in l = between_blanks l.bytes.now

-- the word at k; where the line ends before it, p is the problem
abbrev pub word_at : {P : Type 0} → Words → ℕ → P → ReadOrFault P (List ℕ)
word_at ws k p = ok_or (slice_get ws k) (fault_at k p)

-- the bytes of a word of the code
abbrev pub bytes_read : {P : Type 0} → ReadOrFault P (Bor (List ℕ)) → ReadOrFault P (List ℕ)
bytes_read x = result_and_then x (λ w. Ok w.now)

-- whether this very word stands at k
abbrev pub is_word : Words → ℕ → List ℕ → Bool
is_word ws k w = option_map_or (λ v. bytes_eq v w) (slice_get ws k) false

-- this very word stands at k, or p is the problem
abbrev pub keyword : {P : Type 0} → Words → ℕ → List ℕ → P → ReadOrFault P (Unit {0})
keyword ws k w p = if is_word ws k w then Ok tt else at_word k p

-- no word stands at k, nor after it, or p is the problem
abbrev pub end_at : {P : Type 0} → Words → ℕ → P → ReadOrFault P (Unit {0})
end_at ws k p = if nat_le (length ws) k then Ok tt else at_word k p

-- the number at k, with up to so many decimals; where there is none, p is the problem
abbrev pub number_at : {P : Type 0} → Words → ℕ → ℕ → P → ReadOrFault P Number
number_at ws k places p = result_and_then (word_at ws k p) (λ w. ok_or (numeral places w) (fault_at k p))

-- the number of a numeral of the code, or the fault in its place
abbrev pub read_number : {P : Type 0} → ReadOrFault P Numeral → ReadOrFault P Number
read_number x = result_and_then x (λ n. Ok (number_of n))
