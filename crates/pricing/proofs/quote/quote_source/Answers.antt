use Rattle.std.proofs.Common.{None, arith}
use Rattle.pricing.proofs.Only.{only_quote}
use Rattle.pricing.proofs.Quoting.{from_avoided, from_bounds, from_figures}
use Rattle.pricing.proofs.quote.quote_source.Goals as goal

pub returns-in_err-figures : goal.returns-in_err-figures
returns-in_err-figures g c =
    let r = c.args.rulebook.now in
    grind (arith, only_quote (g.S.PriceSource.means c.args.source.now) g.R.Rulebook.CODE (g.R.Rulebook.ruling r), g.met.R.Rulebook.keeps_laws r)

pub returns : goal.returns
returns g c =
    let m = g.S.PriceSource.means c.args.source.now in
    let r = c.args.rulebook.now in
    let f = c.in_ok-figures.figures in
    let answer = c.quote_figures.result in
    let gives = c.in_ok-figures.ensures.figures_of_the_source in
    let quoted = from_figures m g.R.Rulebook.CODE (g.R.Rulebook.ruling r) f answer gives c.quote_figures.ensures.quote_of_the_ruling in
    record {
      quote_of_the_source = quoted;
      only_answer = λ a h. only_quote m g.R.Rulebook.CODE (g.R.Rulebook.ruling r) a answer h quoted;
      laws_kept = λ f' g'. g.met.R.Rulebook.keeps_laws r f';
      bounds_kept = from_avoided m f answer gives c.quote_figures.ensures.bounds_kept;
      formed_bounds_kept = λ within. from_bounds None m f answer gives (c.quote_figures.ensures.formed_bounds_kept (within f gives));
    }
