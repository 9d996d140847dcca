-- What stands before the first comment mark.
use Rattle.std.proofs.Common.{◌≡◌, ℕ, ◌==◌, Bool, true, false, not, nat_lt, if◌then◌else◌, List, length, take, Some, None, refl, ap, ◌∙◌, arith}
use Rattle.std.proofs.lemmas.Bool.{ltb-false}
use Rattle.std.proofs.lemmas.List.Sums.{prefix_len-le-length}
use Rattle.std.specs.List.{position, position_or_len}
use Rattle.std.specs.Option.{unwrap_or}
use Rattle.words.specs.Words.{uncommented}

abbrev is_mark : ℕ → Bool
is_mark b = b == 35

place_of : (w : List ℕ) (t : Bool) → nat_lt (position_or_len is_mark w) (length w) ≡ t → unwrap_or (if t then Some (position_or_len is_mark w) else None) (length w) ≡ position_or_len is_mark w
place_of w true e = refl
place_of w false e = omega (arith, ltb-false (position_or_len is_mark w) (length w) e, prefix_len-le-length (λ b. not (is_mark b)) w)

pub before_comment : (w : List ℕ) (k : ℕ) → k ≡ unwrap_or (position is_mark w) (length w) → take k w ≡ uncommented w
before_comment w k e = ap (λ n. take n w) (e ∙ place_of w (nat_lt (position_or_len is_mark w) (length w)) refl)
