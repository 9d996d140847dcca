-- What the words after a program's name ask for.
use Rattle.std.specs.Prelude.{ℕ, Bool, true, false, ◌==◌, ◌&&◌, List, [], ◌∷◌, Some, None, Ok, Err, Option, Result, codes, is_some, if◌then◌else◌}
use Rattle.std.specs.Option.{option_map}
use Rattle.std.specs.Str.{bytes_eq}
use Rattle.command.specs.declared.request.Misuse.{Misuse}
use Rattle.command.specs.declared.request.Misuse.TheVariants.{UnknownArgument, SecondFile}
use Rattle.command.specs.declared.request.Takes.{Takes}
use Rattle.command.specs.declared.request.Word.{Word}
use Rattle.command.specs.declared.request.Word.TheVariants.{Strict, Unknown, File}
use Rattle.command.specs.declared.request.Word.TheVariants as word
use Rattle.command.specs.declared.request.Request.{Request}
use Rattle.command.specs.declared.request.Request.TheVariants.{Help, Version, Answer}

-- what is asked for: help, the version, or an answer to a file or to standard input, strict or not
pub data Asked : Type 0 where
  help : Asked
  version : Asked
  answer : Option (List ℕ) → Bool → Asked

-- the word that no program takes there
pub data Misused : Type 0 where
  unknown_argument : List ℕ → Misused
  second_file : List ℕ → Misused

-- what a value of the code says
abbrev pub asked : Result Request Misuse → Result Asked Misused
asked (Ok Help) = Ok help
asked (Ok Version) = Ok version
asked (Ok (Answer o)) = Ok (answer (option_map (λ f. f.now) o.file) o.strict)
asked (Err (UnknownArgument w)) = Err (unknown_argument w.now)
asked (Err (SecondFile w)) = Err (second_file w.now)

-- more than a minus sign, and one at its front
abbrev pub begins_as_argument : List ℕ → Bool
begins_as_argument [] = false
begins_as_argument (b ∷ []) = false
begins_as_argument (b ∷ c ∷ w) = b == 45

-- what a word is to a program that takes these; `-` alone stands for standard input, as a file
abbrev pub word_of : Takes → List ℕ → Word
word_of takes w =
    if bytes_eq w (codes "--help") then word.Help
    else if bytes_eq w (codes "--version") then word.Version
    else if bytes_eq w (codes "--strict") && takes.strict then Strict
    else if begins_as_argument w then Unknown
    else if takes.file then File
    else Unknown

-- what a word leads to: an end, or what is asked for with strictness, or with the word as the file
abbrev pub by_word : Word → List ℕ → Option (List ℕ) → Result Asked Misused → Result Asked Misused → Result Asked Misused
by_word word.Help w file stricter named = Ok help
by_word word.Version w file stricter named = Ok version
by_word Strict w file stricter named = stricter
by_word Unknown w file stricter named = Err (unknown_argument w)
by_word File w file stricter named = if is_some file then Err (second_file w) else named

-- the file to be read, if one is named; `-` is standard input
abbrev pub input_file : Option (List ℕ) → Option (List ℕ)
input_file None = None
input_file (Some w) = if bytes_eq w (codes "-") then None else Some w

-- what the words ask for, from left to right, where a file and strictness were asked for before them
unfoldable pub reading : Takes → Option (List ℕ) → Bool → List (List ℕ) → Result Asked Misused
reading takes file strict [] = Ok (answer (input_file file) strict)
reading takes file strict (w ∷ ws) = by_word (word_of takes w) w file (reading takes file true ws) (reading takes (Some w) strict ws)

-- what all words ask for
abbrev pub request_of : Takes → List (List ℕ) → Result Asked Misused
request_of takes ws = reading takes None false ws
