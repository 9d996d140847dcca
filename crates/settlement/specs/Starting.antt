-- A book as it is started, from which every run begins, and the counts that no book can have.
use Rattle.std.specs.Prelude.{◌≡◌, ℕ, ◌&&◌, [], None, Some, Ok, Err, Option, Result, nat_le, if◌then◌else◌}
use Rattle.std.specs.Option.{option_or}
use Rattle.settlement.specs.Books.{IsFresh}
use Rattle.settlement.specs.Promises.{Sound}
use Rattle.settlement.specs.Runs.{Run}
use Rattle.settlement.specs.declared.book.Book.{Book}
use Rattle.settlement.specs.declared.book.TheConstants.{MOST_PERIODS, MOST_PARTIES}
use Rattle.settlement.specs.declared.fault.CountFault.{CountFault}
use Rattle.settlement.specs.declared.fault.CountFault.TheVariants.{Periods, Parties}

-- the most periods and the most parties of a book
pub record MostCounts : Type 0 where
  pub periods : MOST_PERIODS ≡ 100
  pub parties : MOST_PARTIES ≡ 32

-- 14: the count of periods is not from 1 to the most; then that of parties
abbrev pub count_fault : ℕ → ℕ → Option CountFault
count_fault n m =
    option_or (if nat_le 1 n && nat_le n MOST_PERIODS then None else Some Periods)
    (if nat_le 1 m && nat_le m MOST_PARTIES then None else Some Parties)

-- a book with these counts, from which every run begins
pub record Begins (n m : ℕ) (b : Book) : Type 0 where
  pub counts : count_fault n m ≡ None
  pub periods : b.period_count ≡ n
  pub parties : b.party_count ≡ m
  pub fresh : IsFresh b
  pub run : Run [] b
  pub sound : Sound [] b

-- a book is started, or refused by its counts
abbrev pub Started : ℕ → ℕ → Result Book CountFault → Type 0
Started n m (Ok b) = Begins n m b
Started n m (Err f) = count_fault n m ≡ Some f
