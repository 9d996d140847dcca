use Rattle.std.proofs.Common.{refl}
use Rattle.std.proofs.lemmas.Result.{err_from_is_err_and}
use Rattle.settlement.specs.Books.{in_book}
use Rattle.settlement.proofs.Kept.{sound_call}
use Rattle.settlement.proofs.Steps.{settle_past}
use Rattle.settlement.proofs.book.Book.settle.Goals as goal

pub returns-in_err-has_party : goal.returns-in_err-has_party
returns-in_err-has_party c =
    let w = err_from_is_err_and c.from_residual.result c.from_residual.ensures.1 in
    let e = c.in_err-has_party.ensures.past in
    rw (w.1, w.2, e.0) (sound_call _ _ _ (record { lawful = tt; answered = settle_past (in_book c.args.self.now) c.args.party e.1; changes = refl }))
