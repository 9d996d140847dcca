use Rattle.std.proofs.Common.{◌≡◌, ◌≤◌, length, drop}
use Rattle.sheet.specs.Heads.{opens, opening}
use Rattle.sheet.proofs.head.check_opening.Given as goal

abbrev pub invariant-loop-place : goal.invariant-loop-place
invariant-loop-place l = (opens 0 opening l.sheet ≡ opens l.place (drop l.place opening) (drop l.place l.sheet)) × (l.place ≤ length l.sheet)
