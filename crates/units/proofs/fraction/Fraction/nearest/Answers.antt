use Rattle.std.proofs.Common.{arith}
use borrow.Author.Differences.{ints}
use Rattle.std.proofs.lemmas.Int.{to_z-of_z, to_z_pos}
use Rattle.units.proofs.Rounds.{past_half, under_minus_half, under_half}
use Rattle.units.proofs.fraction.Fraction.nearest.Goals as goal

pub overflow_add-result : goal.overflow_add-result
overflow_add-result c = grind (arith, ints, to_z-of_z, to_z_pos)

pub overflow_sub-result : goal.overflow_sub-result
overflow_sub-result c = grind (arith, ints, to_z-of_z, to_z_pos)

pub returns-then-rest-d : goal.returns-then-rest-d
returns-then-rest-d c = grind (arith, ints, to_z-of_z, to_z_pos, past_half)

pub returns-then-rest-d-2 : goal.returns-then-rest-d-2
returns-then-rest-d-2 c = grind (arith, ints, to_z-of_z, to_z_pos, under_minus_half)

pub returns-else-rest-d-2 : goal.returns-else-rest-d-2
returns-else-rest-d-2 c = grind (arith, ints, to_z-of_z, to_z_pos, under_half)
