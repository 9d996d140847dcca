-- What private functions answer.
use Rattle.std.specs.Prelude.{◌≡◌, ℕ, List, Ok, Err, Result}
use Rattle.units.specs.Chains.{result_and_then}
use Rattle.words.specs.Words.{lines_of}
use Rattle.quarter_text.specs.Drafts.{quarter_of}
use Rattle.quarter_text.specs.Faults.{ReadOrFault, TextFault}
use Rattle.quarter_text.specs.Readers.{HasRead}
use Rattle.quarter_text.specs.declared.reader.TextReader.{TextReader}

-- what an accepted call leaves, or its fault
abbrev pub left : {X : Type 0} → ReadOrFault (Unit {0}) → X → ReadOrFault X
left x rest = result_and_then x (λ done. Ok rest)

-- a reader was given all lines of the text, or one of them is refused
abbrev pub ReadsAll : List ℕ → Result TextReader TextFault → Type 0
ReadsAll text (Ok r) = HasRead r (lines_of text)
ReadsAll text (Err e) = quarter_of text ≡ Err e
