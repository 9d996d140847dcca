-- The bytes of ASCII that have a meaning of their own.
use Rattle.std.specs.Prelude.{ℕ}

-- a space, which parts words
abbrev pub space : ℕ
space = 0x20

-- a tab, which parts words too
abbrev pub tab : ℕ
tab = 0x09

-- a carriage return, which parts words too
abbrev pub carriage_return : ℕ
carriage_return = 0x0D

-- the byte that ends a line
abbrev pub line_end : ℕ
line_end = 0x0A

-- #, at which a comment begins
abbrev pub hash : ℕ
hash = 0x23

-- -, a minus sign before a number
abbrev pub dash : ℕ
dash = 0x2D

-- the point before decimals
abbrev pub point : ℕ
point = 0x2E

-- the digit 0; the others follow it
abbrev pub digit_zero : ℕ
digit_zero = 0x30
