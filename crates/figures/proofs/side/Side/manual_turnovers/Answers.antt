use borrow.Author.Differences.{ints}
use Rattle.std.proofs.Common.{ℕ, ◌*◌, ◌≤◌, ℤ, ◌+ℤ◌, nat_abs, arith, w64, SFits, rules}
use Rattle.std.proofs.lemmas.Int.{to_z-of_z}
use Rattle.units.specs.declared.bounds.TheConstants.{MOST_CENTS}
use Rattle.figures.specs.steps.Bounds.{most_volume}
use Rattle.figures.proofs.side.Side.manual_turnovers.Goals as goal

fits : (x y z : ℤ) (u v w : ℕ) → u ≤ most_volume → v ≤ most_volume → w ≤ most_volume → nat_abs x ≤ MOST_CENTS * u → nat_abs y ≤ MOST_CENTS * v → nat_abs z ≤ MOST_CENTS * w
    → SFits w64 (x +ℤ y) × SFits w64 ((x +ℤ y) +ℤ z)
fits x y z u v w a b c e f g = (omega (arith, ints), omega (arith, ints))

pub returns : goal.returns
returns c =
    let x = c.turnover.result in
    let y = c.turnover-2.result in
    let z = c.turnover-3.result in
    let p = c.turnover.ensures in
    let q = c.turnover-2.ensures in
    let r = c.turnover-3.ensures in
    let f : SFits w64 x = search rules in
    let g : SFits w64 y = search rules in
    let h : SFits w64 z = search rules in
    let k = fits x y z c.args.self.scheduled.volume c.args.self.direct_up.volume c.args.self.direct_down.volume c.requires.scheduled c.requires.direct_up c.requires.direct_down p.bounded q.bounded r.bounded in
    simp (to_z-of_z w64 x f, to_z-of_z w64 y g, to_z-of_z w64 z h, to_z-of_z w64 (x +ℤ y) k.0, to_z-of_z w64 ((x +ℤ y) +ℤ z) k.1)
    (record { summed = omega (arith, ints, p.volume_times_price, q.volume_times_price, r.volume_times_price); bounded = omega (arith, ints, p.bounded, q.bounded, r.bounded) })

pub overflow_add-result-2 : goal.overflow_add-result-2
overflow_add-result-2 c = grind (arith, ints, to_z-of_z)
