-- The book between the steps of the bench's day, and what is known of it.
use Rattle.std.specs.Prelude.{◌≡◌, ℕ, ◌<◌, List, take}
use Rattle.settlement.specs.Known.{Known}
use Rattle.settlement.specs.declared.book.Book.{Book}
use Rattle.settlement.specs.declared.quarter.Quarter.{Quarter}

-- the quarters of a book's periods, one after another
abbrev pub quarters_in : Book → List Quarter
quarters_in b = take b.period_count b.quarters

-- what is known of two settlements is the same
pub record IsSameKnown (k k' : Known) : Type 0 where
  pub periods : k.periods ≡ k'.periods
  pub parties : k.parties ≡ k'.parties
  pub quarter : (p : ℕ) → p < k'.periods → k.quarter p ≡ k'.quarter p
  pub imbalance : (p q : ℕ) → p < k'.periods → q < k'.parties → k.imbalance p q ≡ k'.imbalance p q
  pub paid : (q : ℕ) → q < k'.parties → k.paid q ≡ k'.paid q
