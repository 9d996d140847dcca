-- A price, a demand and a zone net of a plain number, or the refusal where it is out of bounds.
use Rattle.std.specs.Prelude.{ℕ, ℤ, pos, neg_ℤ, Ok, Err, Result, nat_le, unsigned_abs, if◌then◌else◌}
use Rattle.std.proofs.Common.{lit≤}
use Rattle.units.specs.declared.bounds.OutOfBounds.{OutOfBounds}
use Rattle.units.specs.declared.bounds.OutOfBounds.TheVariants as is
use Rattle.units.specs.declared.bounds.TheConstants.{MOST_CENTS, MOST_KW, MOST_ZONE_KW}
use Rattle.units.specs.declared.demand.Demand.{Demand}
use Rattle.units.specs.declared.price.Price.{Price}
use Rattle.units.specs.declared.zone_net.ZoneNet.{ZoneNet}
use Rattle.units.specs.steps.Made.{made_within}

-- a number that is at most the limit in size, or the refusal
abbrev pub within : ℕ → OutOfBounds → ℤ → Result ℤ OutOfBounds
within limit beyond z = if nat_le (unsigned_abs z) limit then Ok z else Err beyond

-- whole cents per MWh, at most 9,999,900 in size
abbrev pub price_of : ℤ → Result Price OutOfBounds
price_of z = made_within MOST_CENTS is.Price z (λ bounded. record { cents = z; bounded = bounded })

-- whole kW, at most 10,000,000 in size
abbrev pub demand_of : ℤ → Result Demand OutOfBounds
demand_of z = made_within MOST_KW is.Demand z (λ bounded. record { kw = z; bounded = bounded })

-- whole kW of a price zone, at most 100,000,000 in size
abbrev pub zone_net_of : ℤ → Result ZoneNet OutOfBounds
zone_net_of z = made_within MOST_ZONE_KW is.ZoneNet z (λ bounded. record { kw = z; bounded = bounded })

-- the least price there is
abbrev pub lowest_price : Price
lowest_price = record { cents = neg_ℤ (pos MOST_CENTS); bounded = lit≤ tt }

-- the greatest
abbrev pub highest_price : Price
highest_price = record { cents = pos MOST_CENTS; bounded = lit≤ tt }

-- the net of a zone of which nothing is told
abbrev pub no_net : ZoneNet
no_net = record { kw = pos 0; bounded = lit≤ tt }
