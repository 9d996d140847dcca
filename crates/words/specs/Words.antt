-- The lines of a text, and the words of a line.
use Rattle.std.specs.Prelude.{ℕ, Bool, ◌||◌, List, length, Option, ◌==◌, nat_lt, option_and_then, slice_get}
use Rattle.std.specs.List.{before_first, filter, slice_split}
use Rattle.words.specs.Marks.{carriage_return, hash, line_end, space, tab}

-- a space, a tab or a carriage return
abbrev pub is_blank : ℕ → Bool
is_blank b = b == space || b == tab || b == carriage_return

-- the lines of a text: byte 0A ends a line
abbrev pub lines_of : List ℕ → List (List ℕ)
lines_of text = slice_split (λ b. b == line_end) text

-- a line without its comment, which begins at the first #
abbrev pub uncommented : List ℕ → List ℕ
uncommented line = before_first (λ b. b == hash) line

-- the words that stand between blanks
abbrev pub between_blanks : List ℕ → List (List ℕ)
between_blanks bytes = filter (λ w. nat_lt 0 (length w)) (slice_split is_blank bytes)

-- the words of a line: those before its comment
abbrev pub words_of : List ℕ → List (List ℕ)
words_of line = between_blanks (uncommented line)

-- a word of a line, if there is such a line
abbrev pub word_in : Option (List ℕ) → ℕ → Option (List ℕ)
word_in line word = option_and_then (λ l. slice_get (words_of l) word) line

-- the word of a line, both counted from 0, if there is one
abbrev pub word_of : List ℕ → ℕ → ℕ → Option (List ℕ)
word_of text line word = word_in (slice_get (lines_of text) line) word
