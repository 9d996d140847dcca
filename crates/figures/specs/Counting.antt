-- Which slots count in a direction, with which volume and price.
use Rattle.std.specs.Prelude.{ℕ, zero, suc, ◌*◌, ◌≤◌, ℤ, pos, IsSome, Some, None, Option}
use borrow.Author.Differences.{up, down}
use Rattle.source.specs.Slots.{formed, Slot}
use Rattle.source.specs.declared.direction.Direction.{Direction}
use Rattle.source.specs.declared.direction.Direction.TheVariants.{Up, Down}
use Rattle.source.specs.declared.slot.Reading.{Reading}
use Rattle.units.specs.declared.price.Price.{Price}
use Rattle.figures.specs.declared.side.Activation.{Activation}

-- the demand of a slot in kW, up positive; 0 where it is unreported
abbrev pub kw_of : Slot → ℤ
kw_of None = pos 0
kw_of (Some r) = r.demand.kw

-- the size of the demand in a direction; 0 where it is not in that direction
abbrev pub demand_in : Direction → Reading → ℕ
demand_in Up r = up r.demand.kw
demand_in Down r = down r.demand.kw

-- the price formed in a direction, if the slot is reported and has one
abbrev pub formed_of : Direction → Slot → Option Price
formed_of d None = None
formed_of d (Some r) = formed d r

-- a slot counts in a direction: its demand is in that direction, and its price is formed
abbrev pub Counts : Direction → Slot → Type 0
Counts d None = ⊥
Counts d (Some r) = (1 ≤ demand_in d r) × IsSome (formed d r)

-- of a weight, a demand in the direction and its price: the volume at that price, where the demand is above 0 and the price formed
abbrev pub activation : ℕ → ℕ → Option Price → Option Activation
activation w zero p = None
activation w (suc n) None = None
activation w (suc n) (Some p) = Some (record { volume = w * suc n; price = p })

-- what a reading of the weight w counts in a direction: its volume and its price
abbrev pub counted : Direction → ℕ → Reading → Option Activation
counted d w r = activation w (demand_in d r) (formed d r)

-- what a slot of the weight w counts in a direction; an unreported one nothing
abbrev pub counted_of : Direction → ℕ → Slot → Option Activation
counted_of d w None = None
counted_of d w (Some r) = counted d w r
