-- What is known of a settlement, and what is due to a party. A book knows it by its fields, a run by its calls.
use Rattle.std.specs.Prelude.{ℕ, zero, suc, ℤ, pos, ◌+ℤ◌, ◌-ℤ◌, ◌*ℤ◌}
use Rattle.units.specs.Rounding.{rounded}
use Rattle.units.specs.declared.euros.Amount.{Amount}
use Rattle.settlement.specs.Standings.{standing_cents}
use Rattle.settlement.specs.declared.quarter.Quarter.{Quarter}

-- how many periods and parties there are, how each quarter stands, what each party's imbalances are and what it was paid
pub record Known : Type 0 where
  pub periods : ℕ
  pub parties : ℕ
  -- how the quarter of a period stands
  pub quarter : ℕ → Quarter
  -- kWh of a period and a party
  pub imbalance : ℕ → ℕ → ℤ
  -- cents paid to a party so far
  pub paid : ℕ → ℤ

-- the sum of f over the numbers below n
abbrev pub sum_to : ℕ → (ℕ → ℤ) → ℤ
sum_to zero f = pos 0
sum_to (suc n) f = sum_to n f +ℤ f n

-- T: the party's imbalances at the standing prices, in thousandths of a cent
abbrev pub imbalance_amount : Known → ℕ → ℤ
imbalance_amount k q = sum_to k.periods (λ p. k.imbalance p q *ℤ standing_cents (k.quarter p))

-- T / 1000 to the nearest cent, a half going away from zero, less all earlier payments
abbrev pub payable : Known → ℕ → ℤ
payable k q = rounded (imbalance_amount k q) 1000 -ℤ k.paid q

-- the payments of a party that was paid nothing
abbrev pub nothing : Amount
nothing = record { cents = pos 0 }
