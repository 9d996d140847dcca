-- What a writer answers and leaves.
use Rattle.std.specs.Prelude.{ℕ, List, ◌++◌, length, drop, Ok, Err, Result, nat_lt, if◌then◌else◌}
use Rattle.writing.specs.declared.short_buffer.ShortBuffer.{ShortBuffer}

-- the length of the sheet s, or the refusal where the buffer is shorter
abbrev pub written : List ℕ → List ℕ → Result ℕ ShortBuffer
written s before = if nat_lt (length before) (length s) then Err (record { needed = length s }) else Ok (length s)

-- the sheet and then what stood there before; all that stood there where the buffer is shorter
abbrev pub left : List ℕ → List ℕ → List ℕ
left s before = if nat_lt (length before) (length s) then before else (s ++ drop (length s) before)

-- 15: the buffer is too short
abbrev pub buffer_number : ShortBuffer → ℕ
buffer_number f = 15

-- the place of that refusal: how many bytes are needed
abbrev pub buffer_place : ShortBuffer → ℕ
buffer_place f = f.needed
