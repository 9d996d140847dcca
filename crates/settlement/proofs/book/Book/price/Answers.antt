use Rattle.std.proofs.Common.{refl}
use Rattle.std.proofs.lemmas.Result.{err_from_is_err_and}
use Rattle.settlement.specs.Answers.{Rules}
use Rattle.settlement.specs.Books.{in_book}
use Rattle.settlement.proofs.Kept.{sound_call}
use Rattle.settlement.proofs.Steps.{price_past}
use Rattle.settlement.proofs.book.Book.price.Goals as goal

pub returns-in_err-has_period : goal.returns-in_err-has_period
returns-in_err-has_period g c =
    let r = c.args.rulebook.now in
    let rules : Rules = record { code = g.R.Rulebook.CODE; net = g.R.Rulebook.NET; ruling = g.R.Rulebook.ruling r } in
    let w = err_from_is_err_and c.from_residual.result c.from_residual.ensures.1 in
    let e = c.in_err-has_period.ensures.past in
    rw (w.1, w.2, e.0) (sound_call _ _ _ (record { lawful = g.met.R.Rulebook.keeps_laws r; answered = price_past (in_book c.args.self.now) c.args.period (g.S.PriceSource.means c.args.source.now) rules e.1; changes = refl }))
