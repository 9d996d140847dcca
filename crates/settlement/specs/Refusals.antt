-- The number and the place of a refusal of the book.
use Rattle.std.specs.Prelude.{ℕ}
use Rattle.metering.specs.Refusals.{metering_number, metering_place}
use Rattle.pricing.specs.Refusals.{quote_number, quote_place}
use Rattle.settlement.specs.declared.fault.BookFault.{BookFault}
use Rattle.settlement.specs.declared.fault.BookFault.TheVariants.{PeriodOutOfRange, PartyOutOfRange, QuarterClosed, QuarterBlank, Metering, NoQuote}
use Rattle.settlement.specs.declared.fault.CountFault.{CountFault}
use Rattle.settlement.specs.declared.fault.CountFault.TheVariants.{Periods, Parties}

-- 9: no such period; 10: no such party; 11: closed; 12: blank; meter values and a quote keep their own number
abbrev pub book_number : BookFault → ℕ
book_number (PeriodOutOfRange p) = 9
book_number (PartyOutOfRange q) = 10
book_number (QuarterClosed p) = 11
book_number (QuarterBlank p) = 12
book_number (Metering f) = metering_number f
book_number (NoQuote p f) = quote_number f

-- the period or the party; meter values keep their own place, and so does a quote's fault, which stands beside the period
abbrev pub book_place : BookFault → ℕ
book_place (PeriodOutOfRange p) = p
book_place (PartyOutOfRange q) = q
book_place (QuarterClosed p) = p
book_place (QuarterBlank p) = p
book_place (Metering f) = metering_place f
book_place (NoQuote p f) = quote_place f

-- 14: no book can have that count
abbrev pub count_number : CountFault → ℕ
count_number Periods = 14
count_number Parties = 14

-- 0: the count of periods; 1: of parties
abbrev pub count_place : CountFault → ℕ
count_place Periods = 0
count_place Parties = 1
