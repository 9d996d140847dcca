-- What a ladder holds in its memory, and what a call makes of it.
use Rattle.std.specs.Prelude.{◌≡◌, ℕ, List, ◌∷◌, ◌++◌, length, take, drop, min}
use Rattle.ladders.specs.Orders.{Order}
use Rattle.ladders.specs.Runs.{Event, Run, Sound}
use Rattle.ladders.specs.declared.ladder.Ladder.{Ladder}

-- the items that stand, the first in front
abbrev pub items_in : {T : Type 0} {g : _} → Ladder T g → List T
items_in b = take b.count b.memory.now

-- how many may stand: the most of their kind, or fewer where the memory is shorter
abbrev pub places_in : {T : Type 0} {g : _} → (most : ℕ) → Ladder T g → ℕ
places_in most b = min most (length b.memory.now)

-- what is in the memory: the items that stand, and behind them what was there before
abbrev pub KeepsTheRest : {T : Type 0} {g : _} → Ladder T g → Ladder T g → Type 0
KeepsTheRest b b' = b'.memory.now ≡ items_in b' ++ drop (length (items_in b')) b.memory.now

-- both have the very same memory
abbrev pub HasMemoryOf : {T : Type 0} {g : _} → Ladder T g → Ladder T g → Type 0
HasMemoryOf b b' = b'.memory.ghost_name ≡ b.memory.ghost_name

-- the calls h, the latest first, lead from an empty ladder of so many places to b
pub record Leads {T : Type 0} {g : _} (o : Order T) (most places : ℕ) (h : List (Event T)) (b : Ladder T g) : Type 0 where
  pub places_are : places_in most b ≡ places
  pub run : Run o places h (items_in b)

-- each run that led to b goes on with e to b', and is sound
pub record IsSoundCall {T : Type 0} {g : _} (o : Order T) (most : ℕ) (e : Event T) (b b' : Ladder T g) : Type 0 where
  pub run : (places : ℕ) (h : List (Event T)) → Leads o most places h b → Leads o most places (e ∷ h) b'
  pub sound : (places : ℕ) (h : List (Event T)) → Leads o most places h b → Sound o places (e ∷ h) (items_in b')
