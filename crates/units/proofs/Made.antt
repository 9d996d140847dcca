-- A quantity is known by its number, and is the one that is made of it.
use Rattle.std.proofs.Common.{◌≡◌, ℕ, ◌≤◌, Bool, true, false, T, leb, ℤ, nat_abs, Ok, Err, Result, ap, subst, le→leb, leb→le}
use mathlib.Core.HLevel.{is_prop→PathP}
use native.Mathlib.Bridge.{le_prop}
use Rattle.units.specs.declared.bounds.OutOfBounds.{OutOfBounds}
use Rattle.units.specs.declared.bounds.OutOfBounds.TheVariants as is
use Rattle.units.specs.declared.bounds.TheConstants.{MOST_CENTS, MOST_KW, MOST_ZONE_KW}
use Rattle.units.specs.declared.demand.Demand.{Demand}
use Rattle.units.specs.declared.price.Price.{Price}
use Rattle.units.specs.declared.zone_net.ZoneNet.{ZoneNet}
use Rattle.units.specs.Quantities.{price_of, demand_of, zone_net_of}
use Rattle.units.specs.steps.Made.{if_t}

pub price_same : (p q : Price) → p.cents ≡ q.cents → p ≡ q
price_same p q e = λ i. record { cents = e i; bounded = is_prop→PathP (λ j. nat_abs (e j) ≤ MOST_CENTS) (λ j. le_prop) p.bounded q.bounded i }

pub demand_same : (p q : Demand) → p.kw ≡ q.kw → p ≡ q
demand_same p q e = λ i. record { kw = e i; bounded = is_prop→PathP (λ j. nat_abs (e j) ≤ MOST_KW) (λ j. le_prop) p.bounded q.bounded i }

pub zone_net_same : (p q : ZoneNet) → p.kw ≡ q.kw → p ≡ q
zone_net_same p q e = λ i. record { kw = e i; bounded = is_prop→PathP (λ j. nat_abs (e j) ≤ MOST_ZONE_KW) (λ j. le_prop) p.bounded q.bounded i }

if_t_holds : {X : Type 0} (b : Bool) (f : T b → X) (x y : X) → T b → ((t : T b) → y ≡ f t) → y ≡ if_t b f x
if_t_holds true f x y t e = e tt
if_t_holds false f x y t e = absurd t

module _ {X : Type 0} (k : ℕ) (val : X → ℤ) (ok : (x : X) → nat_abs (val x) ≤ k) (make : (z : ℤ) → T (leb (nat_abs z) k) → Result X OutOfBounds)
    (same : (x : X) (z : ℤ) (h : T (leb (nat_abs z) k)) → val x ≡ z → Ok x ≡ make z h) where
  made_is : (z : ℤ) (x : X) (e : OutOfBounds) → val x ≡ z → Ok x ≡ if_t (leb (nat_abs z) k) (make z) (Err e)
  made_is z x e v = if_t_holds (leb (nat_abs z) k) (make z) (Err e) (Ok x) (le→leb (nat_abs z) k (subst (λ w. nat_abs w ≤ k) v (ok x))) (λ h. same x z h v)

pub price_made : (z : ℤ) (p : Price) → p.cents ≡ z → Ok p ≡ price_of z
price_made z p = made_is MOST_CENTS (λ p. p.cents) (λ p. p.bounded)
    (λ z h. Ok (record { cents = z; bounded = leb→le (nat_abs z) MOST_CENTS h })) (λ x z h e. ap Ok (price_same x _ e)) z p is.Price

pub demand_made : (z : ℤ) (p : Demand) → p.kw ≡ z → Ok p ≡ demand_of z
demand_made z p = made_is MOST_KW (λ p. p.kw) (λ p. p.bounded)
    (λ z h. Ok (record { kw = z; bounded = leb→le (nat_abs z) MOST_KW h })) (λ x z h e. ap Ok (demand_same x _ e)) z p is.Demand

pub zone_net_made : (z : ℤ) (p : ZoneNet) → p.kw ≡ z → Ok p ≡ zone_net_of z
zone_net_made z p = made_is MOST_ZONE_KW (λ p. p.kw) (λ p. p.bounded)
    (λ z h. Ok (record { kw = z; bounded = leb→le (nat_abs z) MOST_ZONE_KW h })) (λ x z h e. ap Ok (zone_net_same x _ e)) z p is.ZoneNet
