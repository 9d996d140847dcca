use Rattle.std.proofs.Common.{◌+ℤ◌, refl, ap, ◌∙◌, arith}
use Rattle.figures.proofs.Products.{sum_kept}
use Rattle.figures.proofs.tally.Tally.with.Goals as goal

pub returns : goal.returns
returns c =
    let e = sum_kept c.args.self.net c.energy.result c.energy.result refl (omega (arith, c.requires)) (omega (arith, c.energy.ensures.bounded)) ∙ ap (λ z. c.args.self.net +ℤ z) c.energy.ensures.weight_times_demand in
    λ i. record { net = e i; up = c.with.ensures i; down = c.with-2.ensures i }
