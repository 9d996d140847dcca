-- The lines of an input.
use Rattle.std.specs.Prelude.{◌≡◌, ℕ, Bool, List, [], ◌∷◌, Some, IfSome, Option, if◌then◌else◌}
use Rattle.std.specs.Io.BufRead.{drop_through}
use Rattle.words.specs.Marks.{line_end}
use Rattle.words.specs.Words.{lines_of}

-- the lines of the rest, where others follow
abbrev pub lines_after : Bool → List ℕ → List (List ℕ)
lines_after more rest = if more then lines_of rest else []

-- of an input whose bytes are known: its next line, whether others follow it, and what is left of the input: the bytes after the line's end
abbrev pub IsNextLine : Option (List ℕ) → List ℕ → Bool → Option (List ℕ) → Type 0
IsNextLine known line more left = IfSome known (λ bytes. (lines_of bytes ≡ line ∷ lines_after more (drop_through line_end bytes)) × (left ≡ Some (drop_through line_end bytes)))
