use Rattle.std.proofs.Common.{◌<◌, Some, ap, sym, ◌∙◌, arith}
use Rattle.std.proofs.lemmas.List.{get_or-take, length-take-le}
use Rattle.std.proofs.lemmas.Option.{slice_get-get_or}
use Rattle.ladders.specs.Ladders.{items_in}
use Rattle.ladders.proofs.Stepped.{in_order-out, length-out, once-out}
use Rattle.ladders.proofs.ladder.Ladder.take_out.Goals as goal

pub invariant_of-self-2 : goal.invariant_of-self-2
invariant_of-self-2 g c =
    let o = g.T.Item.order in
    let b = c.args.self.now in
    let at = c.args.place in
    let memory = c.remove_at.new.memory in
    record {
      within = omega (arith, b.within, length-out o b.count b.memory.now memory at b.within c.requires.within c.remove_at.ensures);
      no_more_than_most = omega (arith, b.no_more_than_most);
      in_order = in_order-out o b.count b.memory.now memory at b.within c.requires.within c.remove_at.ensures b.in_order;
      numbers_once = once-out o b.count b.memory.now memory at b.within c.requires.within c.remove_at.ensures b.numbers_once;
    }

pub returns-clause-item : goal.returns-clause-item
returns-clause-item g c =
    let b = c.args.self.now in
    let at = c.args.place in
    let below : at < b.count = omega (arith, c.requires.within, length-take-le b.count b.memory.now b.within) in
    ap Some (sym (get_or-take b.count b.memory.now at c.index-self-place.result below)) ∙ sym (slice_get-get_or (items_in b) at c.index-self-place.result c.requires.within)
