-- An exact price, as two whole numbers.
use Rattle.std.specs.Prelude.{ℕ, Bool, ℤ, pos, ◌*ℤ◌, int_le}
use Rattle.units.specs.declared.price.Price.{Price}
use Rattle.units.specs.declared.ratio.Ratio.{Ratio}

-- n / d cents per MWh
pub record Exact : Type 0 where
  pub n : ℤ
  pub d : ℕ

-- what a fraction of the code stands for
abbrev pub exact_of : Ratio → Exact
exact_of r = record { n = r.n; d = r.d }

-- a price as an exact price
abbrev pub exact_of_price : Price → Exact
exact_of_price p = record { n = p.cents; d = 1 }

-- the order of fractions with denominators above zero
abbrev pub at_most : Exact → Exact → Bool
at_most a b = int_le (a.n *ℤ pos b.d) (b.n *ℤ pos a.d)
