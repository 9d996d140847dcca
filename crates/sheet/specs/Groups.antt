-- The bytes of a number: groups of seven bits, lowest first; 2 ^ 7 is added to every byte but the last.
use Rattle.std.specs.Prelude.{ℕ, ◌+◌, ◌-◌, ◌*◌, ◌/◌, ◌%◌, ◌^◌, List, [], ◌∷◌, ℤ, pos, negsuc, Ok, Err, Result, ◌==◌, nat_lt, if◌then◌else◌}
use Rattle.sheet.specs.declared.number.GroupsFault.{GroupsFault}
use Rattle.sheet.specs.declared.number.GroupsFault.TheVariants.{Ends, Form}

-- the joined groups and how many bytes they take, or the fault
abbrev pub Groups : Type 0
Groups = Result (ℕ × ℕ) GroupsFault

-- the groups u of n bytes, of which b is the last: a 0 after the first byte isn't the shortest form
abbrev pub last : ℕ → ℕ → ℕ → Groups
last b u n = if b == 0 then Err Form else Ok (u, n)

-- the fourth byte, which has to be the last; low are the three groups before it, joined
abbrev pub fourth : ℕ → List ℕ → Groups
fourth low [] = Err Ends
fourth low (b ∷ s) = if nat_lt b (2 ^ 7) then last b (low + 2 ^ 21 * b) 4 else Err Form

-- from the third byte on; low are the two groups before it
abbrev pub third : ℕ → List ℕ → Groups
third low [] = Err Ends
third low (b ∷ s) = if nat_lt b (2 ^ 7) then last b (low + 2 ^ 14 * b) 3 else fourth (low + 2 ^ 14 * (b - 2 ^ 7)) s

-- from the second byte on; low is the group before it
abbrev pub second : ℕ → List ℕ → Groups
second low [] = Err Ends
second low (b ∷ s) = if nat_lt b (2 ^ 7) then last b (low + 2 ^ 7 * b) 2 else third (low + 2 ^ 7 * (b - 2 ^ 7)) s

-- the groups at the front of the bytes
abbrev pub groups : List ℕ → Groups
groups [] = Err Ends
groups (b ∷ s) = if nat_lt b (2 ^ 7) then Ok (b, 1) else second (b - 2 ^ 7) s

-- the number that is stored as u: 2n stands for n, and 2n + 1 for -n - 1
abbrev pub unfolded : ℕ → ℤ
unfolded u = if u % 2 == 0 then pos (u / 2) else negsuc (u / 2)
