-- How each call is answered by what is known before it: its checks in their order, and its answer where all are passed.
use Rattle.std.specs.Prelude.{◌≡◌, ℕ, ℤ, Some, None, Ok, Err, Option, Result, nat_lt, if◌then◌else◌}
use Rattle.std.specs.Option.{option_map, option_or}
use Rattle.figures.specs.declared.quarter_figures.Figures.{Figures}
use Rattle.metering.specs.Imbalances.{Values, metering_fault}
use Rattle.pricing.specs.FourLaws.{KeepsLaws}
use Rattle.pricing.specs.Outcomes.{Outcome}
use Rattle.pricing.specs.Quotes.{Answer, IsQuoteOfSource}
use Rattle.pricing.specs.declared.ruling.Net.{Net}
use Rattle.source.specs.Meanings.{Meaning}
use Rattle.units.specs.declared.euros.Amount.{Amount}
use Rattle.settlement.specs.Known.{Known}
use Rattle.settlement.specs.Standings.{is_closed}
use Rattle.settlement.specs.declared.fault.BookFault.{BookFault}
use Rattle.settlement.specs.declared.fault.BookFault.TheVariants.{PeriodOutOfRange, PartyOutOfRange, QuarterClosed, QuarterBlank, Metering, NoQuote}
use Rattle.settlement.specs.declared.quarter.Quarter.{Quarter}
use Rattle.settlement.specs.declared.quarter.Quarter.TheVariants.{Blank, Priced, Closed}

-- CHECKS

-- 9: the period is not below the count
abbrev pub period_fault : Known → ℕ → Option BookFault
period_fault k p = if nat_lt p k.periods then None else Some (PeriodOutOfRange p)

-- 10: the party is not below the count
abbrev pub party_fault : Known → ℕ → Option BookFault
party_fault k q = if nat_lt q k.parties then None else Some (PartyOutOfRange q)

-- 11: the quarter is closed
abbrev pub closed_fault : Known → ℕ → Option BookFault
closed_fault k p = if is_closed (k.quarter p) then Some (QuarterClosed p) else None

-- the checks of a pricing before the quote's own: 9, 11
abbrev pub pricing_fault : Known → ℕ → Option BookFault
pricing_fault k p = option_or (period_fault k p) (closed_fault k p)

-- the checks of a metering: 9, 10, 11, 13
abbrev pub metering_call_fault : Known → ℕ → ℕ → Values → Option BookFault
metering_call_fault k p q v =
    option_or (period_fault k p)
    (option_or (party_fault k q)
    (option_or (closed_fault k p)
    (option_map Metering (metering_fault v))))

-- the checks of a question on a party's imbalance: 9, 10
abbrev pub place_fault : Known → ℕ → ℕ → Option BookFault
place_fault k p q = option_or (period_fault k p) (party_fault k q)

-- PRICING

-- what a rulebook means: its code, its deciding net, and one result for each set of figures
pub record Rules : Type 0 where
  pub code : ℕ
  pub net : Net
  pub ruling : Figures → Outcome

-- a rulebook that keeps the four laws at all figures
abbrev pub IsLawfulRulebook : Rules → Type 0
IsLawfulRulebook r = (f : Figures) → KeepsLaws r.net f (r.ruling f)

-- the quarter that a quote makes, or the source's fault beside the period
abbrev pub pricing_answer : ℕ → Answer → Result Quarter BookFault
pricing_answer p (Ok q) = Ok (Priced q)
pricing_answer p (Err e) = Err (NoQuote p e)

-- the quarter is priced by the quote of the source under the rulebook, or refused by its fault, beside the period
pub record QuotedAt (p : ℕ) (m : Meaning) (r : Rules) (a : Result Quarter BookFault) : Type 0 where
  pub quote : Answer
  pub quoted : IsQuoteOfSource m r.code r.ruling quote
  pub answer : a ≡ pricing_answer p quote

-- a pricing is refused by a check that is not passed, and else answered by its quote
abbrev pub IsPricingAnswer : Option BookFault → ℕ → Meaning → Rules → Result Quarter BookFault → Type 0
IsPricingAnswer (Some f) p m r a = a ≡ Err f
IsPricingAnswer None p m r a = QuotedAt p m r a

-- CLOSING

-- 11, 12: what a closing makes of a quarter
abbrev pub closing_answer : ℕ → Quarter → Result Quarter BookFault
closing_answer p Blank = Err (QuarterBlank p)
closing_answer p (Priced q) = Ok (Closed q)
closing_answer p (Closed q) = Err (QuarterClosed p)

-- SETTLING

-- an answer in plain cents
abbrev pub cents_of : {F : Type 0} → Result Amount F → Result ℤ F
cents_of (Ok x) = Ok x.cents
cents_of (Err f) = Err f
