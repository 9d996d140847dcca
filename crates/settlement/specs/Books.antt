-- What a book holds: of each period its quarter, of each party its imbalances and what it was paid.
use Rattle.std.specs.Prelude.{◌≡◌, ℕ, List, [], map, replicate, slice_index_or}
use Rattle.metering.specs.Imbalances.{balanced}
use Rattle.metering.specs.declared.imbalance.Imbalance.{Imbalance}
use Rattle.units.specs.declared.euros.Amount.{Amount}
use Rattle.settlement.specs.Known.{Known, nothing}
use Rattle.settlement.specs.declared.book.Book.{Book}
use Rattle.settlement.specs.declared.book.TheConstants.{MOST_PERIODS, MOST_PARTIES}
use Rattle.settlement.specs.declared.quarter.Quarter.{Quarter}
use Rattle.settlement.specs.declared.quarter.Quarter.TheVariants.{Blank}

-- each party's imbalances, of a quarter after another
abbrev pub imbalances_in : Book → List (List Imbalance)
imbalances_in b = map (λ party. party.imbalances) b.parties

-- what each party was paid so far
abbrev pub payments_in : Book → List Amount
payments_in b = map (λ party. party.paid) b.parties

-- how the quarter of a period stands
abbrev pub quarter_at : Book → ℕ → Quarter
quarter_at b p = slice_index_or b.quarters p Blank

-- a party's imbalances, of a quarter after another
abbrev pub imbalances_of : Book → ℕ → List Imbalance
imbalances_of b q = slice_index_or (imbalances_in b) q []

-- a party's imbalance in a period
abbrev pub imbalance_at : Book → ℕ → ℕ → Imbalance
imbalance_at b p q = slice_index_or (imbalances_of b q) p balanced

-- what a party was paid so far
abbrev pub paid_to : Book → ℕ → Amount
paid_to b q = slice_index_or (payments_in b) q nothing

-- what a book says of the settlement
abbrev pub in_book : Book → Known
in_book b = record {
  periods = b.period_count;
  parties = b.party_count;
  quarter = quarter_at b;
  imbalance = λ p q. (imbalance_at b p q).kwh;
  paid = λ q. (paid_to b q).cents;
}

-- a book as it is started: each of its quarters is blank, none of its parties is metered or paid
pub record IsFresh (b : Book) : Type 0 where
  pub blank : b.quarters ≡ replicate MOST_PERIODS Blank
  pub unmetered : imbalances_in b ≡ replicate MOST_PARTIES (replicate MOST_PERIODS balanced)
  pub unpaid : payments_in b ≡ replicate MOST_PARTIES nothing
