-- Numerals: digits, a point, decimals, and a minus sign.
use Rattle.std.specs.Prelude.{◌≡◌, ℕ, ◌+◌, ◌-◌, ◌*◌, ◌^◌, min, Bool, true, false, List, [], ◌∷◌, length, take, drop, ℤ, pos, neg_ℤ, Some, None, Option, ◌==◌, nat_le, option_and_then, if◌then◌else◌}
use Rattle.std.specs.Char.{is_ascii_digit}
use Rattle.std.specs.List.{position}
use Rattle.std.specs.Option.{option_map}
use Rattle.words.specs.Marks.{dash, digit_zero, point}
use Rattle.words.specs.declared.decimal.TheConstants.{READ_AT_MOST}
use Rattle.words.specs.declared.numeral.Numeral.{Numeral}
use Rattle.words.specs.declared.places.Places.{Places}
use Rattle.words.specs.declared.places.Places.TheVariants.{Whole, Two, Three}

-- the number that digits write when they follow those of n
abbrev pub digits_after : ℕ → List ℕ → Option ℕ
digits_after n [] = Some n
digits_after n (b ∷ w) = if is_ascii_digit b then digits_after (n * 10 + (b - digit_zero)) w else None

-- the number of a word of digits, one at least
abbrev pub digits : List ℕ → Option ℕ
digits [] = None
digits (b ∷ w) = digits_after 0 (b ∷ w)

-- the whole number n and the digits w after its point: one at least, and as many as there are places at most
abbrev pub decimals : ℕ → ℕ → List ℕ → Option ℕ
decimals places n w = if nat_le (length w) places then option_map (λ m. n * 10 ^ places + m * 10 ^ (places - length w)) (digits w) else None

-- the same after a whole number that is one
abbrev pub with_decimals : ℕ → Option ℕ → List ℕ → Option ℕ
with_decimals places whole w = option_and_then (λ n. decimals places n w) whole

-- the number of a word by the place of its point, if it has one
abbrev pub by_point : ℕ → List ℕ → Option ℕ → Option ℕ
by_point places w None = option_map (λ n. n * 10 ^ places) (digits w)
by_point places w (Some k) = with_decimals places (digits (take k w)) (drop (k + 1) w)

-- the number of a numeral without a sign, in units of its last place: with two places, 1.5 is 150
abbrev pub unsigned_numeral : ℕ → List ℕ → Option ℕ
unsigned_numeral places w = by_point places w (position (λ b. b == point) w)

-- the most decimals that a numeral may have
abbrev pub most_decimals : Places → ℕ
most_decimals Whole = 0
most_decimals Two = 2
most_decimals Three = 3

-- the number of a numeral: whether a minus sign stands before it, and its size
pub record Number : Type 0 where
  pub negative : Bool
  pub size : ℕ

-- a number without a sign, and whether a minus sign stands before it
abbrev pub with_sign : Bool → Option ℕ → Option Number
with_sign negative size = option_map (λ n. record { negative = negative; size = n }) size

-- the number of a word, in units of the last of so many places
abbrev pub numeral : ℕ → List ℕ → Option Number
numeral places [] = None
numeral places (b ∷ w) = if b == dash then with_sign true (unsigned_numeral places w) else with_sign false (unsigned_numeral places (b ∷ w))

-- the number as a whole one, with its sign
abbrev pub integer_of : Number → ℤ
integer_of n = if n.negative then neg_ℤ (pos n.size) else pos n.size

-- the number as which greater ones are read
abbrev pub CapNumber : Type 0
CapNumber = READ_AT_MOST ≡ 1_000_000_000_000

-- as numerals are read: a number that is greater than READ_AT_MOST as that one
abbrev pub capped : Number → Number
capped n = record { negative = n.negative; size = min n.size READ_AT_MOST }

-- the number of a numeral of the code
abbrev pub number_of : Numeral → Number
number_of n = record { negative = n.negative; size = n.size }
