-- What an accepted call changes in a book: one quarter, one imbalance or one party's payments. All else stays.
use Rattle.std.specs.Prelude.{◌≡◌, ℕ, Ok, Err, Result, slice_set}
use Rattle.metering.specs.declared.imbalance.Imbalance.{Imbalance}
use Rattle.units.specs.declared.euros.Amount.{Amount}
use Rattle.settlement.specs.Books.{imbalances_in, imbalances_of, payments_in}
use Rattle.settlement.specs.declared.book.Book.{Book}
use Rattle.settlement.specs.declared.fault.BookFault.{BookFault}
use Rattle.settlement.specs.declared.quarter.Quarter.{Quarter}

-- b' has as many periods and as many parties as b
abbrev pub SameCounts : Book → Book → Type 0
SameCounts b b' = (b'.period_count ≡ b.period_count) × (b'.party_count ≡ b.party_count)

-- b' is b, but that the quarter of p is x
pub record Filed (b b' : Book) (p : ℕ) (x : Quarter) : Type 0 where
  pub counts : SameCounts b b'
  pub quarters : b'.quarters ≡ slice_set b.quarters p x
  pub parties : b'.parties ≡ b.parties

-- b' is b, but that the imbalance of the party q in p is i
pub record Metered (b b' : Book) (p q : ℕ) (i : Imbalance) : Type 0 where
  pub counts : SameCounts b b'
  pub quarters : b'.quarters ≡ b.quarters
  pub imbalances : imbalances_in b' ≡ slice_set (imbalances_in b) q (slice_set (imbalances_of b q) p i)
  pub paid : payments_in b' ≡ payments_in b

-- b' is b, but that q was paid x in all
pub record Paid (b b' : Book) (q : ℕ) (x : Amount) : Type 0 where
  pub counts : SameCounts b b'
  pub quarters : b'.quarters ≡ b.quarters
  pub imbalances : imbalances_in b' ≡ imbalances_in b
  pub paid : payments_in b' ≡ slice_set (payments_in b) q x

-- the quarter of p is now as it was answered; a refused call changed nothing
abbrev pub FiledAs : Book → Book → ℕ → Result Quarter BookFault → Type 0
FiledAs b b' p (Ok x) = Filed b b' p x
FiledAs b b' p (Err f) = b' ≡ b
