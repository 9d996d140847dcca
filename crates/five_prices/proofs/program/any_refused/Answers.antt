use Rattle.std.proofs.Common.{is_err, rules, tests}
use Rattle.std.proofs.lemmas.Iterator.{YieldsList-from_slice}
use Rattle.std.proofs.lemmas.Iterator.Search.{any_from_yields_List}
use Rattle.lines.specs.Quarters.{answers_by_code}
use Rattle.five_prices.proofs.program.any_refused.Goals as goal

pub returns : goal.returns
returns c = any_from_yields_List is_err _ _ _ c.any.ensures.ran (YieldsList-from_slice (answers_by_code c.args.lines.now.quotes) cc) (λ x b q k. search (rules, tests))
