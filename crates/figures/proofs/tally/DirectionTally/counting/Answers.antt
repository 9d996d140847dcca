use borrow.Author.Differences.{ints}
use Rattle.std.proofs.Common.{◌≡◌, ◌≤◌, pos, ◌*ℤ◌, sym, refl, ap, ◌∙◌, arith, w64, to_z, of_z, subst}
use Rattle.std.proofs.lemmas.Grind.{common_steps}
use Rattle.units.specs.declared.bounds.TheConstants.{MOST_CENTS}
use Rattle.figures.specs.steps.Bounds.{most_volume}
use Rattle.figures.specs.Sides.{volume_of}
use Rattle.figures.specs.Spans.{greater, lesser}
use Rattle.figures.specs.steps.Tallies.{counting_in}
use Rattle.std.proofs.lemmas.Int.{to_z-of_z, to_z_pos}
use Rattle.figures.proofs.Products.{product_within, sum_kept, tally_same}
use Rattle.figures.proofs.tally.DirectionTally.counting.Goals as goal

pub overflow_add-result-2 : goal.overflow_add-result-2
overflow_add-result-2 c =
    let h = product_within c.in-Some.added.volume MOST_CENTS c.in-Some.added.price.cents c.in-Some.added.price.bounded in
    grind (arith, ints, to_z-of_z, to_z_pos)

pub returns : goal.returns
returns c =
    let v = c.in-Some.added.volume in
    let p = c.in-Some.added.price.cents in
    let h = product_within v MOST_CENTS p c.in-Some.added.price.bounded in
    let w : v ≤ most_volume = subst (λ o. volume_of o ≤ most_volume) c.in-Some.is c.requires.bounded in
    let s : to_z w64 v ≡ pos v = omega (arith, ints) in
    let t : to_z w64 (of_z w64 c.cents.result) ≡ p = omega (arith, ints) in
    let e : to_z w64 v *ℤ to_z w64 (of_z w64 c.cents.result) ≡ pos v *ℤ p = ap (λ z. z *ℤ to_z w64 (of_z w64 c.cents.result)) s ∙ ap (λ z. pos v *ℤ z) t in
    let k = sum_kept c.args.self.turnover _ (pos v *ℤ p) e (omega arith) (omega arith) in
    let l : c.min.result ≡ lesser c.in-Some.added.price c.args.self.lowest_counting = grind (arith, common_steps) in
    let g : c.max.result ≡ greater c.in-Some.added.price c.args.self.highest_counting = grind (arith, common_steps) in
    tally_same _ _ _ _ _ _ _ _ _ _ refl k l g ∙ ap (λ o. counting_in o c.args.self) (sym c.in-Some.is)
