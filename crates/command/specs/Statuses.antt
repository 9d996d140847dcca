-- The statuses with which programs end.
use Rattle.std.specs.Prelude.{◌≡◌, ℕ, ◌⊎◌, Ok, Err, Result}
use Rattle.command.specs.declared.failure.Failure.{Failure}
use Rattle.command.specs.declared.program.Status.{Status}
use Rattle.command.specs.declared.program.Status.TheVariants.{Answered, Refused}

-- 0 it answered, 1 its data was refused
abbrev pub status_of : Status → ℕ
status_of Answered = 0
status_of Refused = 1

-- its words, its input, its output or memory failed
abbrev pub failed_status : ℕ
failed_status = 2

-- the status of an answer, or of what failed in its place
abbrev pub answer_status : Result Status Failure → ℕ
answer_status (Ok s) = status_of s
answer_status (Err f) = failed_status

-- a program ends with one of these
abbrev pub IsStatus : ℕ → Type 0
IsStatus s = (s ≡ status_of Answered) ⊎ ((s ≡ status_of Refused) ⊎ (s ≡ failed_status))
