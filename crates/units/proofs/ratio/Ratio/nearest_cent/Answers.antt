use borrow.Author.Differences.{ints}
use Rattle.std.proofs.Common.{◌≡◌, ℕ, ℤ, neg_ℤ, ◌≤ℤ◌, sym, ap, ◌∙◌, subst, arith, w32, w64, SFits, to_z, of_z, rules}
use Rattle.std.proofs.lemmas.Int.{to_z-of_z}
use Rattle.units.specs.Rounding.{rounded}
use Rattle.units.proofs.Rounds.{keeps_bounds, nearest_is, only_nearest, price_kept, rounded_neg}
use Rattle.units.proofs.ratio.Ratio.nearest_cent.Goals as goal

-- the numerator that is handed over is the price's
same : (n r : ℤ) (d : ℕ) → SFits w64 n → r ≡ rounded (to_z w64 (of_z w64 n)) d → r ≡ rounded n d
same n r d f e = e ∙ ap (λ (z : ℤ). rounded z d) (to_z-of_z w64 n f)

pub overflow_cast-result : goal.overflow_cast-result
overflow_cast-result c =
    let b = price_kept c.args.self.n c.args.self.d c.args.self.divides c.args.self.bounded in
    let s = same c.args.self.n c.nearest.result c.args.self.d (search rules) c.nearest.ensures in
    omega (arith, ints)

pub invariant_of-result : goal.invariant_of-result
invariant_of-result c =
    let b = price_kept c.args.self.n c.args.self.d c.args.self.divides c.args.self.bounded in
    let s = same c.args.self.n c.nearest.result c.args.self.d (search rules) c.nearest.ensures in
    record { bounded = omega (arith, ints) }

pub returns : goal.returns
returns c =
    let n = c.args.self.n in
    let d = c.args.self.d in
    let some = c.args.self.divides in
    let b = price_kept n d some c.args.self.bounded in
    let s = same c.args.self.n c.nearest.result c.args.self.d (search rules) c.nearest.ensures in
    let e : to_z w32 (of_z w32 (to_z w64 (of_z w64 c.nearest.result))) ≡ rounded n d = omega (arith, ints) in
    record {
      rounded = omega (arith, ints);
      nearest = nearest_is n d some e;
      only = λ z h. only_nearest n d z some h ∙ sym e;
      symmetric = rounded_neg n d ∙ ap neg_ℤ (sym e);
      between = λ lo hi h k. subst (λ x. (lo ≤ℤ x) × (x ≤ℤ hi)) (sym e) (keeps_bounds n d lo hi some h k);
    }
