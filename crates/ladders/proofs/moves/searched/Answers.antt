use Rattle.std.proofs.Common.{◌≡◌, true, false, sym, ap, ◌∙◌, arith, Bool, nat_lt, rules}
use Rattle.std.proofs.lemmas.List.{get_or_default}
use Rattle.std.specs.List.Sorted.{IsPartitionPoint}
use Rattle.std.proofs.lemmas.List.Sorted.{IsPartitionPoint-from_clause}
use Rattle.ladders.proofs.Searched.{below_parts, stands_nowhere, stands_there}
use Rattle.ladders.proofs.moves.searched.Goals as goal
use Rattle.ladders.proofs.moves.searched.Goals.{else-place-items-via-then-place-items+else-number, else-place-items-via-else-place-items}

pub returns-then-number : goal.returns-then-number
returns-then-number g c =
    let o = g.T.Item.order in
    let n = c.args.number in
    let l = c.args.items.now in
    let lower : g.row.T.Denot → Bool = λ y. nat_lt (o.number y) n in
    let point : IsPartitionPoint (λ y. lower y ≡ true) (λ y. lower y ≡ false) l c.partition_point-place.result = IsPartitionPoint-from_clause lower l c.partition_point-place.result c.partition_point-place.ensures.partitioned (below_parts o n l c.requires.by_number) (λ a r q k. search rules) in
    record { first = stands_there o n l c.requires.by_number c.partition_point-place.result c.partition_point-place.ensures.bound point c.index-items-place.result c.if-place-items.true (sym (ap o.number c.index-items-place.is) ∙ sym c.number.ensures ∙ c.if-number.true) }

pub returns : goal.returns
returns g c =
    let o = g.T.Item.order in
    let n = c.args.number in
    let l = c.args.items.now in
    let lower : g.row.T.Denot → Bool = λ y. nat_lt (o.number y) n in
    let at = c.partition_point-place.result in
    let point : IsPartitionPoint (λ y. lower y ≡ true) (λ y. lower y ≡ false) l at = IsPartitionPoint-from_clause lower l at c.partition_point-place.ensures.partitioned (below_parts o n l c.requires.by_number) (λ a r q k. search rules) in
    record {
      first = stands_nowhere o n l c.requires.by_number at c.partition_point-place.ensures.bound point (λ d lt e. elim c.else-place-items.branch [
        | else-place-items-via-then-place-items+else-number w ↦ w.if-number.false (w.number.ensures ∙ ap o.number w.index-items-place.is ∙ ap o.number (get_or_default l at w.index-items-place.result d lt) ∙ e)
        | else-place-items-via-else-place-items w ↦ absurd (omega (arith, lt, w.if-place-items.false))
      ]);
    }
