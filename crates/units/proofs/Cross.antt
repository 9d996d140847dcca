-- A numerator of 64 bits times a denominator of 64 bits fits 128.
use Rattle.std.proofs.Common.{ℕ, suc, ◌-◌, ◌^◌, ◌<◌, ◌≤◌, ℤ, pos, negsuc, ◌*ℤ◌, mul-le-mul, arith, w64, SFits}
use borrow.Author.Differences.{ints}
use mir.Syntax.{w128}

pub cross_fits : (n : ℤ) (d : ℕ) → SFits w64 n → d < 2 ^ 64 → SFits w128 (n *ℤ pos d)
cross_fits (pos a) d f h =
    let g : a ≤ 2 ^ 63 - 1 = omega (arith, f.sfits) in
    let k : d ≤ 2 ^ 64 - 1 = omega arith in
    omega (arith, ints, mul-le-mul g k)
cross_fits (negsuc a) d f h =
    let g : suc a ≤ 2 ^ 63 = f.sfits in
    let k : d ≤ 2 ^ 64 - 1 = omega arith in
    omega (arith, ints, mul-le-mul g k)
