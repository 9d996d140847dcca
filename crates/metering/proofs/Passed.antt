-- Meter values whose checks are all passed.
use Rattle.std.proofs.Common.{◌≡◌, ℕ, ◌≤◌, Bool, true, false, length, ℤ, ◌-ℤ◌, Ok, Err, sym, refl, ap, ◌∙◌, arith}
use Rattle.std.proofs.lemmas.Bool.{le-ltb}
use Rattle.std.specs.Prelude.{if◌then◌else◌}
use Rattle.metering.specs.Imbalances.{Values, imbalance_of, is_beyond, position}
use Rattle.metering.specs.Steps.{in_bounds, position_of}
use Rattle.metering.specs.declared.fault.MeteringFault.{MeteringFault}
use Rattle.metering.specs.declared.meter_values.TheConstants.{MOST_SCHEDULES}

-- an answer that is given, of a check that is then passed
answered : {X F : Type 0} (t : Bool) (f : F) (x z : X) → Ok x ≡ (if t then Err f else Ok z) → (t ≡ false) × (x ≡ z)
answered true f x z e = let w : ◌≡◌ {A = ℕ} 0 1 = cc in absurd (omega arith)
answered false f x z e = (refl, cc)

pub passed : (v : Values) (s p a d : ℤ) (f g h : MeteringFault) → length v.schedules ≤ MOST_SCHEDULES → Ok s ≡ position_of v.schedules → Ok p ≡ in_bounds s f → Ok a ≡ in_bounds v.allocated g → Ok d ≡ in_bounds v.adjustment h → Ok ((a -ℤ p) -ℤ d) ≡ imbalance_of v
passed v s p a d f g h few sum position_is allocated_is adjustment_is =
    let sums = answered _ _ s (position v.schedules) sum in
    let t = answered (is_beyond s) _ p s position_is in
    let u = answered (is_beyond v.allocated) _ a v.allocated allocated_is in
    let w = answered (is_beyond v.adjustment) _ d v.adjustment adjustment_is in
    let x : is_beyond (position v.schedules) ≡ false = ap is_beyond (sym sums.1) ∙ t.0 in
    rw (le-ltb MOST_SCHEDULES (length v.schedules) few, sums.0, x, u.0, w.0, u.1, t.1, sums.1, w.1) refl
