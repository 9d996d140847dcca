-- The bytes of ASCII that stand in printed lines.
use Rattle.std.specs.Prelude.{ℕ}

-- a space, which stands between two fields of a line
abbrev pub space : ℕ
space = 0x20

-- the byte that ends a line
abbrev pub line_end : ℕ
line_end = 0x0A

-- !, by which a refusal is known
abbrev pub refusal_mark : ℕ
refusal_mark = 0x21
