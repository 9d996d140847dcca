use Rattle.std.proofs.Common.{rules}
use Rattle.quarter_text.proofs.LineSteps.{goes_on}
use Rattle.quarter_text.proofs.reader.TextReader.line.Goals as goal

pub returns-clause-goes_on : goal.returns-clause-goes_on
returns-clause-goes_on c = goes_on c.args.self.now c.args.bytes.now c.read.new.self c.read.ensures.reads (search rules)
