-- The opening, one byte after another.
use Rattle.std.proofs.Common.{◌≡◌, ℕ, ◌<◌, ◌≤◌, List, length, get_or, drop, Err, refl, arith, drop_of_length-le}
use Rattle.std.proofs.lemmas.Bool.Decides.{nat_tests}
use Rattle.std.proofs.lemmas.List.{drop_more}
use Rattle.sheet.specs.Heads.{opens}
use Rattle.sheet.specs.declared.fault.SheetFault.TheVariants as sf

module _ (want s : List ℕ) (i : ℕ) (h : i < length want) where
  pub wrong : i < length s → (get_or s i 0 ≡ get_or want i 0 → ⊥) → opens i (drop i want) (drop i s) ≡ Err (sf.Opening i)
  wrong k e = rw (drop_more want i 0 h, drop_more s i 0 k) (grind (arith, nat_tests))

  pub short : length s ≤ i → opens i (drop i want) (drop i s) ≡ Err (sf.Ends i)
  short k = rw (drop_more want i 0 h, drop_of_length-le s {i = i} k) refl
