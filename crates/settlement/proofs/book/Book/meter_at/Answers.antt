use Rattle.std.proofs.Common.{◌≡◌, false, Ok, Err, refl, subst}
use Rattle.std.proofs.lemmas.Result.{err_from_is_err_and}
use Rattle.metering.specs.Imbalances.{values_of}
use Rattle.settlement.specs.Books.{in_book, quarter_at}
use Rattle.settlement.specs.Changes.{Metered}
use Rattle.settlement.specs.Events.{metering}
use Rattle.settlement.specs.Standings.{is_closed}
use Rattle.settlement.specs.declared.book.Book.{Book}
use Rattle.settlement.specs.declared.fault.BookFault.TheVariants.{Metering}
use Rattle.settlement.proofs.Kept.{sound_call}
use Rattle.settlement.proofs.Steps.{meter_answered, meter_closed, refuses_values, takes_values}
use Rattle.settlement.proofs.book.Book.meter_at.Goals as goal

pub returns-in_err-turn : goal.returns-in_err-turn
returns-in_err-turn c =
    let b = c.args.self.now in
    let p = c.args.period in
    let w = err_from_is_err_and c.from_residual.result c.from_residual.ensures.1 in
    let s = refuses_values p (quarter_at b p) _ c.in_err-turn.ensures.answers in
    rw (w.1, w.2, s.1) (sound_call _ _ _ (record { lawful = tt; answered = meter_closed (in_book b) p c.args.party (values_of c.args.values.now) c.requires.period c.requires.party s.0; changes = c.turn.ensures.changes }))

pub returns-in_err-imbalance : goal.returns-in_err-imbalance
returns-in_err-imbalance c =
    let b = c.args.self.now in
    let p = c.args.period in
    let s : is_closed (quarter_at b p) ≡ false = takes_values p (quarter_at b p) _ c.in_ok-turn.ensures.answers in
    let w = err_from_is_err_and c.from_residual-in_err-imbalance.result c.from_residual-in_err-imbalance.ensures.1 in
    let f = c.in_err-imbalance.field-0.0 in
    rw (w.1, w.2) (sound_call _ _ _ (record { lawful = tt; answered = meter_answered (in_book b) p c.args.party (values_of c.args.values.now) (Err f) (Err (Metering f)) c.requires.period c.requires.party s c.in_err-imbalance.ensures.imbalance_or_first_fault refl; changes = c.turn.ensures.changes }))

pub returns : goal.returns
returns c =
    let b = c.args.self.now in
    let p = c.args.period in
    let q = c.args.party in
    let i = c.in_ok-imbalance.imbalance in
    let s : is_closed (quarter_at b p) ≡ false = takes_values p (quarter_at b p) _ c.in_ok-turn.ensures.answers in
    sound_call (metering p q (values_of c.args.values.now) (Ok i)) b c.put.new.self (record {
      lawful = tt;
      answered = meter_answered (in_book b) p q (values_of c.args.values.now) (Ok i) (Ok i) c.requires.period c.requires.party s c.in_ok-imbalance.ensures.imbalance_or_first_fault refl;
      changes = subst (λ (w : Book). Metered w c.put.new.self p q i) c.turn.ensures.changes c.put.ensures;
    })
