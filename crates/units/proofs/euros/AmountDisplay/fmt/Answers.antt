use Rattle.units.proofs.euros.AmountDisplay.fmt.Goals as goal
use Rattle.units.proofs.Spelled.{below_zero, from_zero}
use Rattle.std.proofs.lemmas.Int.{to_z-of_z}
use Rattle.std.specs.Fmt.{HasWritten}
use Rattle.std.proofs.Common.{ℕ, List, subst, w64, SFits, rules}

pub returns-then-self-lt0-clause-writes : goal.returns-then-self-lt0-clause-writes
returns-then-self-lt0-clause-writes g c =
    let z = c.args.self.now.cents in
    let f : SFits w64 z = search rules in
    let e = below_zero z _ (simp (to_z-of_z w64 z f) at c.if-self-lt0.true) (simp (to_z-of_z w64 z f) at c.unsigned_abs-size.ensures.value) in
    λ plain ok. subst (λ (bs : List ℕ). HasWritten g.W.Write.write_str_gives c.args.f.now bs c.write.new.self) e (c.write.ensures.writes plain ok)

pub returns-else-self-lt0-clause-writes : goal.returns-else-self-lt0-clause-writes
returns-else-self-lt0-clause-writes g c =
    let z = c.args.self.now.cents in
    let f : SFits w64 z = search rules in
    let e = from_zero z _ (simp (to_z-of_z w64 z f) at c.if-self-lt0.false) (simp (to_z-of_z w64 z f) at c.unsigned_abs-size.ensures.value) in
    λ plain ok. subst (λ (bs : List ℕ). HasWritten g.W.Write.write_str_gives c.args.f.now bs c.write-else-self-lt0.new.self) e (c.write-else-self-lt0.ensures.writes plain ok)
