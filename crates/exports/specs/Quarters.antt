-- The quotes of a sheet in plain numbers.
use Rattle.std.specs.Prelude.{◌≡◌, ℕ, List, pos, Ok, Err, Result}
use Rattle.pricing.specs.FiveQuotes.{AreQuotesUnlessFault}
use Rattle.pricing.specs.Refusals.{quote_number, quote_place}
use Rattle.pricing.specs.declared.fault.QuoteFault.{QuoteFault}
use Rattle.pricing.specs.declared.codes.FiveQuotes.{FiveQuotes}
use Rattle.pricing.specs.declared.codes.Terms.{Terms}
use Rattle.pricing.specs.declared.quote.Quote.{Quote}
use Rattle.pricing.specs.declared.quote.QuoteDirection.{QuoteDirection}
use Rattle.pricing.specs.declared.quote.QuoteDirection.TheVariants.{Up, Down, Avoided}
use Rattle.sheet.specs.Faults.{fault_number, fault_place}
use Rattle.sheet.specs.Sheets.{first_fault, sheet_meaning}
use Rattle.sheet.specs.declared.fault.SheetFault.{SheetFault}
use Rattle.exports.specs.declared.plain.PlainQuarter.{PlainQuarter}
use Rattle.exports.specs.declared.plain.PlainQuote.{PlainQuote}

-- 1 up, 2 down, 3 the avoided activation
abbrev pub direction_number : QuoteDirection → ℕ
direction_number Up = 1
direction_number Down = 2
direction_number Avoided = 3

-- a refusal by its number and place
abbrev pub refused_as : ℕ → ℕ → PlainQuote
refused_as number place = record { refusal = number; direction = 0; place = place; cents = pos 0 }

-- a quote by its direction and cents, or its refusal
abbrev pub plain_answer : Result Quote QuoteFault → PlainQuote
plain_answer (Ok q) = record { refusal = 0; direction = direction_number q.direction; place = 0; cents = q.price.cents }
plain_answer (Err e) = refused_as (quote_number e) (quote_place e)

-- the answer under each of the five rulebooks
abbrev pub plain_quotes : FiveQuotes → PlainQuarter
plain_quotes q = record {
  weighted_average = plain_answer q.weighted_average;
  combined_automatic = plain_answer q.combined_automatic;
  combined_all = plain_answer q.combined_all;
  max_min = plain_answer q.max_min;
  finnish = plain_answer q.finnish;
}

-- the same under each rulebook
abbrev pub every_code : PlainQuote → PlainQuarter
every_code q = record { weighted_average = q; combined_automatic = q; combined_all = q; max_min = q; finnish = q }

-- the quotes of a sheet, or its fault under each rulebook
abbrev pub plain_quarter : Result FiveQuotes SheetFault → PlainQuarter
plain_quarter (Ok q) = plain_quotes q
plain_quarter (Err f) = every_code (refused_as (fault_number f) (fault_place f))

-- the sheet's first fault, or else under the terms the quotes of what the sheet tells, in plain numbers
pub record IsPlainQuarter (t : Terms) (s : List ℕ) (r : PlainQuarter) : Type 0 where
  pub answer : Result FiveQuotes SheetFault
  pub quotes : AreQuotesUnlessFault (first_fault s) t (sheet_meaning s) answer
  pub is : r ≡ plain_quarter answer
