-- What is written of a hexadecimal digit.
use Rattle.std.proofs.Common.{◌≡◌, ℕ, ◌<◌, [], ◌∷◌, false}
use Rattle.std.proofs.lemmas.Fmt.{hex_one_digit}
use Rattle.std.specs.Char.{digit_char}
use Rattle.std.specs.Fmt.{digits}

pub digit_written : (n : ℕ) → n < 16 → digits 16 false n ≡ digit_char n ∷ []
digit_written n h = hex_one_digit false n h
