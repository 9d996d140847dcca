use Rattle.std.proofs.Common.{◌≡◌, ◌<◌, ◌≤◌, length, ap, ◌∙◌, arith}
use Rattle.std.proofs.lemmas.List.{length-take-le}
use Rattle.ladders.specs.Ladders.{items_in}
use Rattle.ladders.specs.Lists.{rank_of}
use Rattle.ladders.proofs.Stepped.{in_order-take, in_order-then, length-with, once-take, once-then}
use Rattle.ladders.proofs.ladder.Ladder.put.Goals as goal

pub invariant_of-self : goal.invariant_of-self
invariant_of-self g c =
    let o = g.T.Item.order in
    let b = c.args.self.now in
    let rank = c.rank_of-rank.result in
    let le : rank ≤ b.count = omega (arith, c.rank_of-rank.ensures.within, ap length c.items.ensures, length-take-le b.count b.memory.now b.within) in
    record {
      within = omega (arith, le, b.within);
      no_more_than_most = omega (arith, le, b.no_more_than_most);
      in_order = in_order-take o rank b.count b.memory.now le b.within b.in_order;
      numbers_once = once-take o rank b.count b.memory.now le b.within b.numbers_once;
    }

pub invariant_of-self-2 : goal.invariant_of-self-2
invariant_of-self-2 g c =
    let o = g.T.Item.order in
    let b = c.args.self.now in
    let x = c.args.item in
    let rank = c.rank_of-rank.result in
    let memory = c.insert_at.new.memory in
    let count : length (items_in b) ≡ b.count = length-take-le b.count b.memory.now b.within in
    let room : b.count < length b.memory.now = omega (arith, c.requires.room, count) in
    let counts : rank ≡ rank_of o x (items_in b) = c.rank_of-rank.ensures.counts ∙ ap (rank_of o x) c.items.ensures in
    record {
      within = omega (arith, room, length-with o b.count b.memory.now memory x rank room counts c.insert_at.ensures);
      no_more_than_most = omega (arith, c.requires.room, count);
      in_order = in_order-then o b.count b.memory.now memory x rank room counts c.insert_at.ensures g.met.T.Item.is_strict b.in_order b.numbers_once c.requires.new_number;
      numbers_once = once-then o b.count b.memory.now memory x rank room counts c.insert_at.ensures g.met.T.Item.is_strict b.in_order b.numbers_once c.requires.new_number;
    }
