-- The call that a line of plain text has.
use Rattle.std.specs.Prelude.{ℕ, List, [], ◌∷◌, ℤ, Some, None, Ok, Option, Result, codes, if◌then◌else◌}
use Rattle.units.specs.Chains.{result_and_then}
use Rattle.source.specs.declared.direction.Direction.{Direction}
use Rattle.source.specs.declared.direction.Direction.TheVariants.{Up, Down}
use Rattle.words.specs.Lines.{Words, end_at, is_word, keyword, number_at}
use Rattle.words.specs.Numerals.{capped, integer_of}
use Rattle.words.specs.Words.{words_of}
use Rattle.words.specs.declared.fault.WordFault.{WordFault}
use Rattle.ladder_calls.specs.declared.call.Call.{Call}
use Rattle.ladder_calls.specs.declared.call.Call.TheVariants.{Add, Withdraw}
use Rattle.ladder_calls.specs.declared.fault.Part.{Part}
use Rattle.ladder_calls.specs.declared.fault.Part.TheVariants as part

-- what is read of words, or the first of them that should be another
abbrev pub ReadOrFault : Type 0 → Type 0
ReadOrFault X = Result X (WordFault Part)

-- the direction at k: up or down
abbrev pub direction_at : Words → ℕ → ReadOrFault Direction
direction_at ws k = if is_word ws k (codes "up") then Ok Up else result_and_then (keyword ws k (codes "down") part.Direction) (λ word. Ok Down)

-- the number at k, with up to so many decimals, in units of the last of them; one whose size is beyond 10^12 as of that size
abbrev pub value_at : Words → ℕ → ℕ → Part → ReadOrFault ℤ
value_at ws k places p = result_and_then (number_at ws k places p) (λ n. Ok (integer_of (capped n)))

-- the line of an adding: a direction, a price in euros, a quantity in kW, a number
abbrev pub add_line : Words → ReadOrFault Call
add_line ws =
    result_and_then (direction_at ws 1)
    (λ d. result_and_then (value_at ws 2 2 part.Price)
    (λ cents. result_and_then (value_at ws 3 0 part.Quantity)
    (λ kw. result_and_then (value_at ws 4 0 part.Number)
    (λ number. result_and_then (end_at ws 5 part.End)
    (λ ended. Ok (Add d (record { cents = cents; kw = kw; number = number })))))))

-- the line of a withdrawing: a direction and a number
abbrev pub withdraw_line : Words → ReadOrFault Call
withdraw_line ws =
    result_and_then (direction_at ws 1)
    (λ d. result_and_then (value_at ws 2 0 part.Number)
    (λ number. result_and_then (end_at ws 3 part.End)
    (λ ended. Ok (Withdraw d number))))

-- the call of these words, none where there are none
abbrev pub call_of_words : Words → ReadOrFault (Option Call)
call_of_words [] = Ok None
call_of_words (w ∷ ws) =
    if is_word (w ∷ ws) 0 (codes "add") then result_and_then (add_line (w ∷ ws)) (λ c. Ok (Some c))
    else result_and_then (keyword (w ∷ ws) 0 (codes "withdraw") part.Call) (λ word. result_and_then (withdraw_line (w ∷ ws)) (λ c. Ok (Some c)))

-- the call of a line, none where it has no words before its comment
abbrev pub call_of : List ℕ → ReadOrFault (Option Call)
call_of line = call_of_words (words_of line)
