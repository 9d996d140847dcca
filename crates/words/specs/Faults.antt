-- A fault of a word, and its line. P are the problems for which a word is refused.
use Rattle.std.specs.Prelude.{ℕ, Err, Result}
use Rattle.units.specs.Chains.{result_map_err}
use Rattle.words.specs.declared.fault.TextFault.{TextFault}
use Rattle.words.specs.declared.fault.WordFault.{WordFault}

-- what is read of words, or the first of them that is refused
abbrev pub ReadOrFault : Type 0 → Type 0 → Type 0
ReadOrFault P X = Result X (WordFault P)

-- the word at k has this problem
abbrev pub fault_at : {P : Type 0} → ℕ → P → WordFault P
fault_at k p = record { word = k; problem = p }

-- the word at k is refused, for this problem
abbrev pub at_word : {P X : Type 0} → ℕ → P → ReadOrFault P X
at_word k p = Err (fault_at k p)

-- the fault of a word in the n-th line
abbrev pub fault_in : {P : Type 0} → ℕ → WordFault P → TextFault P
fault_in n f = record { line = n; word = f.word; problem = f.problem }

-- what is read of the n-th line, counted from 0
abbrev pub in_line : {P X : Type 0} → ℕ → ReadOrFault P X → Result X (TextFault P)
in_line n x = result_map_err x (fault_in n)
