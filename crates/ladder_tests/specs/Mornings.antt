-- What a morning's calls on a ladder leave in its memory.
use Rattle.std.specs.Prelude.{ℕ, List, [], ◌∷◌, Result, min}
use Rattle.ladders.specs.Runs.{Sound, adding, withdrawing}
use Rattle.ladders.specs.declared.fault.LadderFault.{LadderFault}
use Rattle.bids.specs.Merit.{up_order}
use Rattle.bids.specs.declared.kinds.TheConstants.{MOST_BIDS}
use Rattle.bids.specs.declared.kinds.UpBid.{UpBid}

-- how many bids may stand over a memory of so many places
abbrev pub bid_places : ℕ → ℕ
bid_places memory = min MOST_BIDS memory

-- what is promised of every run holds of what stands after two bids were added and a number withdrawn, with some answers
abbrev pub StandsAfterMorning : (places : ℕ) → (first second : UpBid) → (number : ℕ) → List UpBid → Type 0
StandsAfterMorning places first second n l = (a b : Result ℕ LadderFault) × (c : Result UpBid LadderFault) × Sound up_order places (withdrawing n c ∷ adding second b ∷ adding first a ∷ []) l
