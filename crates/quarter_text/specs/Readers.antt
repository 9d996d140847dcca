-- A quarter that is read line by line.
use Rattle.std.specs.Prelude.{◌≡◌, ℕ, ◌<◌, List, [], ◌∷◌, ◌++◌, length, slice_get, Ok, Err, Result}
use Rattle.std.specs.Option.{option_map_or}
use Rattle.units.specs.Chains.{result_and_then}
use Rattle.words.specs.Faults.{in_line}
use Rattle.words.specs.Words.{word_of, words_of}
use Rattle.quarter_text.specs.Faults.{TextFault}
use Rattle.quarter_text.specs.Drafts.{blank, finished, quarter_of_lines, with_line, with_lines}
use Rattle.quarter_text.specs.declared.draft.Draft.{Draft}
use Rattle.quarter_text.specs.declared.quarter.TextQuarter.{TextQuarter}
use Rattle.quarter_text.specs.declared.reader.TextReader.{TextReader}
use Rattle.quarter_text.specs.declared.reader.TheConstants.{MOST_LINES}

-- what a reader holds: the draft of its lines, or the fault for which one of them was refused
abbrev pub read_so_far : TextReader → Result Draft TextFault
read_so_far r = option_map_or Err r.refused (Ok r.draft)

-- what is read with one line more, the n-th: after a refusal that very fault
abbrev pub with_next : Result Draft TextFault → ℕ → List ℕ → Result Draft TextFault
with_next read n line = result_and_then read (λ d. in_line n (with_line n d (words_of line)))

-- a line is accepted, unless it or one before it is refused
abbrev pub accepted : Result Draft TextFault → Result (Unit {0}) TextFault
accepted read = result_and_then read (λ d. Ok tt)

-- the quarter that a reader tells at the end
abbrev pub quarter_read : TextReader → Result TextQuarter TextFault
quarter_read r = result_and_then (read_so_far r) (λ d. finished r.lines d.named d.others d.zone_net d.avoided)

-- a reader was given these lines, and no others
abbrev pub HasRead : TextReader → List (List ℕ) → Type 0
HasRead r ls = (read_so_far r ≡ with_lines 0 blank ls) × (r.lines ≡ length ls)

-- whatever lines a reader was given, with one more it was given that one after them
abbrev pub GoesOn : TextReader → List ℕ → TextReader → Type 0
GoesOn r line next = (ls : List (List ℕ)) → HasRead r ls → length ls < MOST_LINES → HasRead next (ls ++ (line ∷ []))

-- whatever lines a reader was given, this is the quarter of them
abbrev pub TellsItsLines : TextReader → Result TextQuarter TextFault → Type 0
TellsItsLines r quarter = (ls : List (List ℕ)) → HasRead r ls → quarter ≡ quarter_of_lines ls

-- a line has the very word at which a fault of a text stands, or has none where the text has none there
abbrev pub HasWordOf : List ℕ → List ℕ → TextFault → Type 0
HasWordOf line text fault = slice_get (words_of line) fault.word ≡ word_of text fault.line fault.word
