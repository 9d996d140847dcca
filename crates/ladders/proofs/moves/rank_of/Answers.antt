use Rattle.std.proofs.Common.{Bool, sym, rules}
use Rattle.std.proofs.lemmas.List.Sorted.{IsPartitionPoint-from_clause}
use Rattle.ladders.proofs.Ordered.{count_at_point, partitioned}
use Rattle.ladders.proofs.moves.rank_of.Goals as goal

pub returns-clause-counts : goal.returns-clause-counts
returns-clause-counts g c =
    let order = g.T.Item.order in
    let before : g.row.T.Denot → Bool = λ y. order.is_before y c.args.item in
    let point = IsPartitionPoint-from_clause before c.args.items.now c.partition_point.result c.partition_point.ensures.partitioned (partitioned order g.met.T.Item.is_strict c.args.item c.args.items.now c.requires.in_order) (λ a r q k. search rules) in
    sym (count_at_point before c.args.items.now c.partition_point.result c.partition_point.ensures.bound point c.args.item)
