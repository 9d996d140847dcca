-- An imbalance is known by its number.
use mathlib.Core.HLevel.{is_prop→PathP}
use Rattle.std.proofs.Common.{◌≡◌, ◌≤◌, nat_abs}
use native.Mathlib.Bridge.{le_prop}
use Rattle.metering.specs.declared.imbalance.Imbalance.{Imbalance}
use Rattle.metering.specs.declared.imbalance.TheConstants.{MOST_IMBALANCE}

pub imbalance_same : (p q : Imbalance) → p.kwh ≡ q.kwh → p ≡ q
imbalance_same p q e = λ i. record { kwh = e i; bounded = is_prop→PathP (λ j. nat_abs (e j) ≤ MOST_IMBALANCE) (λ j. le_prop) p.bounded q.bounded i }
