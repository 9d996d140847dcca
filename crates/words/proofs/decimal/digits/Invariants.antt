use Rattle.std.proofs.Common.{◌≡◌, ◌≤◌, drop}
use Rattle.words.specs.declared.decimal.TheConstants.{READ_AT_MOST}
use Rattle.words.specs.Numerals.{digits, digits_after}
use Rattle.words.proofs.Capped.{capped}
use Rattle.words.proofs.decimal.digits.Given as goal

abbrev pub invariant-loop-byte : goal.invariant-loop-byte
invariant-loop-byte l = (capped (digits l.word) ≡ capped (digits_after l.number (drop l.byte-index l.word))) × (l.number ≤ READ_AT_MOST)
