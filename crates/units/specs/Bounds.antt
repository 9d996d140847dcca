-- The bounds of quantities, and the refusal of a plain number that is out of them.
use Rattle.std.specs.Prelude.{◌≡◌, ℕ}
use Rattle.units.specs.declared.bounds.TheConstants.{MOST_CENTS, MOST_KW, MOST_ZONE_KW, MOST_DENOMINATOR}
use Rattle.units.specs.declared.bounds.OutOfBounds.{OutOfBounds}
use Rattle.units.specs.declared.bounds.OutOfBounds.TheVariants as is

-- the numbers by which code and definitions go: the greatest size of a price in cents, of a demand and of a zone net in kW, and the greatest denominator of an exact price
pub record BoundNumbers : Type 0 where
  pub price : MOST_CENTS ≡ 9_999_900
  pub demand : MOST_KW ≡ 10_000_000
  pub zone_net : MOST_ZONE_KW ≡ 100_000_000
  pub denominator : MOST_DENOMINATOR ≡ 9_000_000_000

-- 5: a number is out of bounds
abbrev pub refusal_number : OutOfBounds → ℕ
refusal_number is.Demand = 5
refusal_number is.Price = 5
refusal_number is.ZoneNet = 5

-- 0 a demand, 1 a price, 2 a zone net
abbrev pub refusal_place : OutOfBounds → ℕ
refusal_place is.Demand = 0
refusal_place is.Price = 1
refusal_place is.ZoneNet = 2
