use Rattle.std.proofs.Common.{refl}
use Rattle.std.proofs.lemmas.Result.{err_from_is_err_and}
use Rattle.metering.specs.Imbalances.{values_of}
use Rattle.settlement.specs.Books.{in_book}
use Rattle.settlement.proofs.Kept.{sound_call}
use Rattle.settlement.proofs.Steps.{meter_past_party, meter_past_period}
use Rattle.settlement.proofs.book.Book.meter.Goals as goal

pub returns-in_err-has_period : goal.returns-in_err-has_period
returns-in_err-has_period c =
    let w = err_from_is_err_and c.from_residual.result c.from_residual.ensures.1 in
    let e = c.in_err-has_period.ensures.past in
    rw (w.1, w.2, e.0) (sound_call _ _ _ (record { lawful = tt; answered = meter_past_period (in_book c.args.self.now) c.args.period c.args.party (values_of c.args.values.now) e.1; changes = refl }))

pub returns-in_err-has_party : goal.returns-in_err-has_party
returns-in_err-has_party c =
    let w = err_from_is_err_and c.from_residual-in_err-has_party.result c.from_residual-in_err-has_party.ensures.1 in
    let e = c.in_err-has_party.ensures.past in
    rw (w.1, w.2, e.0) (sound_call _ _ _ (record { lawful = tt; answered = meter_past_party (in_book c.args.self.now) c.args.period c.args.party (values_of c.args.values.now) c.in_ok-has_period.ensures.within e.1; changes = refl }))
