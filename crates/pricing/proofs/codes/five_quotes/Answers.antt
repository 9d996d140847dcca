use Rattle.pricing.proofs.Only.{only_five}
use Rattle.pricing.proofs.Quoting.{bounds_from_five, from_five}
use Rattle.pricing.proofs.codes.five_quotes.Goals as goal

pub returns-in-Ok-clause-quotes_of_the_source : goal.returns-in-Ok-clause-quotes_of_the_source
returns-in-Ok-clause-quotes_of_the_source g c =
    from_five c.args.terms (g.S.PriceSource.means c.args.source.now) c.in-Ok.figures c.quotes_of.result c.in-Ok.ensures.figures_of_the_source c.quotes_of.ensures

pub returns-in-Ok-clause-only_answer : goal.returns-in-Ok-clause-only_answer
returns-in-Ok-clause-only_answer g c = λ q h. only_five c.args.terms (g.S.PriceSource.means c.args.source.now) q c.quotes_of.result h (returns-in-Ok-clause-quotes_of_the_source g c)

pub returns-in-Ok-clause-bounds_kept : goal.returns-in-Ok-clause-bounds_kept
returns-in-Ok-clause-bounds_kept g c =
    bounds_from_five c.args.terms (g.S.PriceSource.means c.args.source.now) c.in-Ok.figures c.quotes_of.result c.in-Ok.ensures.figures_of_the_source c.quotes_of.ensures
