use Rattle.settlement.specs.Answers.{Rules}
use Rattle.settlement.specs.Books.{in_book}
use Rattle.settlement.specs.Events.{pricing}
use Rattle.settlement.proofs.Kept.{sound_call}
use Rattle.settlement.proofs.Steps.{price_answered}
use Rattle.settlement.proofs.book.Book.price_at.Goals as goal

pub returns : goal.returns
returns g c =
    let m = g.S.PriceSource.means c.args.source.now in
    let r = c.args.rulebook.now in
    let rules : Rules = record { code = g.R.Rulebook.CODE; net = g.R.Rulebook.NET; ruling = g.R.Rulebook.ruling r } in
    sound_call (pricing c.args.period m rules c.turn.result) c.args.self.now c.turn.new.self
    (record {
      lawful = g.met.R.Rulebook.keeps_laws r;
      answered = price_answered (in_book c.args.self.now) c.args.period m rules c.turn.result c.quote_source-answer.result c.requires c.quote_source-answer.ensures.quote_of_the_source c.turn.ensures.answers;
      changes = c.turn.ensures.changes;
    })
