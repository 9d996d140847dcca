use Rattle.std.proofs.Common.{Ok, None, ap, ◌∙◌, subst}
use Rattle.pricing.specs.Quotes.{IsQuote}
use Rattle.pricing.proofs.Bounding.{quote_in_bounds}
use Rattle.pricing.proofs.Only.{only_answer}
use Rattle.pricing.proofs.quote.quote_figures.Goals as goal

pub returns-clause-quote_of_the_ruling : goal.returns-clause-quote_of_the_ruling
returns-clause-quote_of_the_ruling g c =
    let f = c.args.figures.now in
    subst (λ o. IsQuote g.R.Rulebook.CODE o f.avoided (Ok (record { code = c.CODE-code.result; direction = c.from.result; price = c.nearest_cent.result }))) {y = g.R.Rulebook.ruling c.args.rulebook.now f}
    c.in-Some.ensures
    (record {
      price = c.nearest_cent.result;
      is = ap (λ k. Ok (record { code = k; direction = c.from.result; price = c.nearest_cent.result })) c.CODE-code.ensures
          ∙ ap (λ d. Ok (record { code = g.R.Rulebook.CODE; direction = d; price = c.nearest_cent.result })) c.from.ensures;
      at = c.nearest_cent.ensures.rounded;
    })

pub returns-clause-only_answer : goal.returns-clause-only_answer
returns-clause-only_answer g c = λ a h. only_answer g.R.Rulebook.CODE (g.R.Rulebook.ruling c.args.rulebook.now c.args.figures.now) c.args.figures.now.avoided a _ h (returns-clause-quote_of_the_ruling g c)

pub returns-clause-bounds_kept : goal.returns-clause-bounds_kept
returns-clause-bounds_kept g c =
    let f = c.args.figures.now in
    let laws = g.met.R.Rulebook.keeps_laws c.args.rulebook.now f in
    quote_in_bounds f.avoided g.R.Rulebook.CODE f (g.R.Rulebook.ruling c.args.rulebook.now f) _ laws.formed laws.mean (returns-clause-quote_of_the_ruling g c)

pub returns-clause-formed_bounds_kept : goal.returns-clause-formed_bounds_kept
returns-clause-formed_bounds_kept g c = λ within.
    let f = c.args.figures.now in
    let laws = g.met.R.Rulebook.keeps_laws c.args.rulebook.now f in
    quote_in_bounds None g.R.Rulebook.CODE f (g.R.Rulebook.ruling c.args.rulebook.now f) _ within laws.mean (returns-clause-quote_of_the_ruling g c)
