use Rattle.std.proofs.Common.{arith}
use Rattle.std.proofs.lemmas.Bool.Decides.{nat_tests}
use Rattle.std.proofs.lemmas.List.{get_or_default}
use Rattle.sheet.specs.Heads.{opening}
use Rattle.sheet.proofs.Opening.{short, wrong}
use Rattle.sheet.proofs.head.check_opening.Goals as goal

pub returns-in_default-clause-checks : goal.returns-in_default-clause-checks
returns-in_default-clause-checks c = grind (arith, nat_tests, short opening)

pub returns-then-byte-wanted-clause-checks : goal.returns-then-byte-wanted-clause-checks
returns-then-byte-wanted-clause-checks c = grind (arith, nat_tests, wrong opening, get_or_default)
