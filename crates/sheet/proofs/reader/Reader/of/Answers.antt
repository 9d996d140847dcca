use Rattle.std.proofs.Common.{arith}
use Rattle.sheet.proofs.Parts.{by_records}
use Rattle.sheet.proofs.reader.Reader.of.Goals as goal

pub returns-clause-by_records : goal.returns-clause-by_records
returns-clause-by_records c = rw c.after.ensures (by_records c.args.sheet.now c.in_ok-head.head (grind arith) c.in_ok-head.ensures.within)
