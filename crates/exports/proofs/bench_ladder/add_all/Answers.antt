use Rattle.std.proofs.Common.{rules, ◌≡◌, get_or, set, pos, arith, ap, sym, ◌∙◌}
use Rattle.std.specs.Result.{result_unwrap_or}
use Rattle.std.proofs.lemmas.List.{set-get_or, set_past}
use Rattle.ladders.specs.Ladders.{items_in, places_in}
use Rattle.ladders.specs.Lists.{adding_answer, after_adding}
use Rattle.bids.specs.Merit.{up_order}
use Rattle.bids.specs.declared.kinds.TheConstants.{MOST_BIDS}
use Rattle.exports.specs.BenchLadders.{one_added, up_bid}
use Rattle.exports.proofs.Laddering.{counted, one_more}
use Rattle.exports.proofs.bench_ladder.add_all.Goals as goal
use Rattle.exports.proofs.bench_ladder.add_all.Goals.{in-Ok+then-place-ranks, in-Ok+else-place-ranks, in_default}

pub loop-place-preserved : goal.loop-place-preserved
loop-place-preserved c =
    let i = c.loop-place.place in
    let l = items_in c.loop-place.ladder in
    let ranks = c.loop-place.ranks in
    let bid = get_or c.args.bids.now i (record { cents = pos 0; kw = 0; number = 0 }) in
    let run = c.loop-place.invariant.run in
    let answered : c.add.result ≡ one_added bid l =
    c.add.ensures.answers
    ∙ ap (λ x. adding_answer up_order (places_in MOST_BIDS c.loop-place.ladder) x l) c.from.ensures
    ∙ ap (λ n. adding_answer up_order n (up_bid bid) l) run.1.places_are in
    let stands = c.add.ensures.stands_then ∙ ap (λ x. after_adding up_order x c.add.result l) c.from.ensures in
    let put : c.match-add.ranks ≡ set ranks i (result_unwrap_or c.add.result (get_or ranks i 0)) = elim c.match-add.branch [
      | in-Ok+then-place-ranks w ↦ search rules
      | in-Ok+else-place-ranks w ↦ w.ranks-is ∙ sym (set_past ranks i (result_unwrap_or c.add.result (get_or ranks i 0)) w.if-place-ranks.false)
      | in_default w ↦ w.ranks-is ∙ sym (ap (λ a. set ranks i (result_unwrap_or a (get_or ranks i 0))) w.in_default.is ∙ set-get_or ranks i 0)
    ] in
    let many : c.match-add.added ≡ counted c.loop-place.added c.add.result = elim c.match-add.branch [
      | in-Ok+then-place-ranks w ↦ search rules
      | in-Ok+else-place-ranks w ↦ search rules
      | in_default w ↦ search rules
    ] in
    record {
      run = (_, c.add.ensures.sound.run MOST_BIDS run.0 run.1);
      added = one_more c.args.bids.now c.args.ranks.now l _ ranks _ i c.loop-place.added _ _ 0 c.add.result (omega arith) c.loop-place.invariant.added answered stands put many;
    }
