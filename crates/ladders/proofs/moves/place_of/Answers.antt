use Rattle.std.proofs.Common.{sym, ◌∙◌}
use Rattle.ladders.proofs.Searched.{rising}
use Rattle.ladders.proofs.moves.place_of.Goals as goal

pub searched-requires : goal.searched-requires
searched-requires g c = record { by_number = rising g.T.Item.order c.args.items.now (sym c.BY_NUMBER.ensures ∙ c.if-BY_NUMBER.true) g.met.T.Item.goes_by_number c.requires.in_order }
