-- A day in the book, for the bench: which quarters are priced, what is metered, and what the parties are paid.
use Rattle.std.specs.Prelude.{◌≡◌, ℕ, zero, suc, ◌*◌, ◌<◌, Bool, false, true, ◌&&◌, List, [], ◌∷◌, length, map, ℤ, pos, ◌+ℤ◌, ◌-ℤ◌, Some, None, Option, Ok, Err, ◌==◌, count_by, is_some, nat_le, nat_lt, slice_index, slice_index_or, if◌then◌else◌}
use Rattle.std.specs.List.{range_with_len, slice_range}
use Rattle.metering.specs.Imbalances.{Values, imbalance}
use Rattle.pricing.specs.Quotes.{IsQuoteOfSource}
use Rattle.pricing.specs.Rulings.{finnish}
use Rattle.pricing.specs.declared.fault.QuoteFault.{QuoteFault}
use Rattle.settlement.specs.Known.{Known, payable}
use Rattle.settlement.specs.Refusals.{count_number, count_place}
use Rattle.settlement.specs.Standings.{quote_in}
use Rattle.settlement.specs.declared.fault.CountFault.{CountFault}
use Rattle.settlement.specs.declared.quarter.Quarter.{Quarter}
use Rattle.settlement.specs.declared.quarter.Quarter.TheVariants.{Blank, Priced, Closed}
use Rattle.sheet.specs.Sheets.{sheet_meaning}
use Rattle.exports.specs.declared.plain.PlainDay.{PlainDay}

-- PRICES

-- the first quarter's sheet begins at 0, and any other where the one before ends
abbrev pub sheet_start : List ℕ → ℕ → ℕ
sheet_start ends zero = 0
sheet_start ends (suc p) = slice_index ends p

-- a quarter's bytes, or none where its places are none of the sheets'
abbrev pub sheet_at : List ℕ → List ℕ → ℕ → List ℕ
sheet_at sheets ends p = if nat_le (slice_index ends p) (length sheets) then slice_range sheets (sheet_start ends p) (slice_index ends p) else []

-- a quarter has its sheet's quote under code 5, and is blank where that is refused
abbrev pub QuarterOf : List ℕ → Quarter → Type 0
QuarterOf s (Priced q) = IsQuoteOfSource (sheet_meaning s) 5 finnish (Ok q)
QuarterOf s Blank = (f : QuoteFault) × IsQuoteOfSource (sheet_meaning s) 5 finnish (Err f)
QuarterOf s (Closed q) = ⊥

-- each quarter is priced from its own sheet
pub record QuartersOf (sheets ends : List ℕ) (quarters : List Quarter) : Type 0 where
  pub count : length quarters ≡ length ends
  pub each : (p : ℕ) → p < length ends → QuarterOf (sheet_at sheets ends p) (slice_index_or quarters p Blank)

-- whether a price stands
abbrev pub has_price : Quarter → Bool
has_price x = is_some (quote_in x)

-- IMBALANCES

-- what is metered of a party in a period, with kWh that come late: numbers made up for the bench
abbrev pub meter_values : ℕ → ℕ → ℤ → Values
meter_values p q late = record {
  schedules = (pos (13 * p) -ℤ pos 900) ∷ (pos (7 * q) -ℤ pos 350) ∷ [];
  allocated = ((pos (11 * p) -ℤ pos (23 * q)) -ℤ pos 1_262) +ℤ late;
  adjustment = pos q -ℤ pos 16;
}

-- nothing is metered and nothing paid
abbrev pub unmetered : ℕ → List Quarter → Known
unmetered m quarters = record { periods = length quarters; parties = m; quarter = λ p. slice_index_or quarters p Blank; imbalance = λ p q. pos 0; paid = λ q. pos 0 }

-- each party is metered in each period
abbrev pub metered_all : Known → Known
metered_all k = record k { imbalance = λ p q. imbalance (meter_values p q (pos 0)) }

-- party 0 is metered again in the last period, with 65 kWh more
abbrev pub metered_late : Known → Known
metered_late k = record k { imbalance = λ p q. if (suc p == k.periods) && (q == 0) then imbalance (meter_values p q (pos 65)) else k.imbalance p q }

-- PAYMENTS

-- the first n parties are settled
abbrev pub settled_first : ℕ → Known → Known
settled_first n k = record k { paid = λ q. if nat_lt q n then k.paid q +ℤ payable k q else k.paid q }

-- each party of the book has its payment in its place; the other places keep what stood there
abbrev pub payments_over : Known → List ℤ → List ℤ
payments_over k xs = map (λ q. if nat_lt q k.parties then payable k q else slice_index_or xs q (pos 0)) (range_with_len 0 (length xs))

-- THE DAY

-- what the two buffers of payments hold
pub record Buffers : Type 0 where
  pub first : List ℤ
  pub second : List ℤ

-- the refusal of the counts
abbrev pub not_started : CountFault → PlainDay
not_started f = record { started = false; refusal = count_number f; place = count_place f; priced = 0 }

-- no book is started, and the buffers are left
pub record NotStarted (f : CountFault) (before after : Buffers) (d : PlainDay) : Type 0 where
  pub answer : d ≡ not_started f
  pub left : after ≡ before

-- m parties are metered and settled, and settled again over the whole day after the late value
pub record Settled (sheets ends : List ℕ) (m : ℕ) (before after : Buffers) (d : PlainDay) : Type 0 where
  pub quarters : List Quarter
  pub prices : QuartersOf sheets ends quarters
  pub answer : d ≡ record { started = true; refusal = 0; place = 0; priced = count_by has_price quarters }
  pub first : after.first ≡ payments_over (metered_all (unmetered m quarters)) before.first
  pub second : after.second ≡ payments_over (metered_late (settled_first (length before.first) (metered_all (unmetered m quarters)))) before.second

-- counts that no book can have are refused; with others the day is settled
abbrev pub DayOf : Option CountFault → List ℕ → List ℕ → ℕ → Buffers → Buffers → PlainDay → Type 0
DayOf (Some f) sheets ends m before after d = NotStarted f before after d
DayOf None sheets ends m before after d = Settled sheets ends m before after d
