-- How a quarter stands. A priced quarter and a closed one have a standing price, that of the quote that is filed.
use Rattle.std.specs.Prelude.{Bool, true, false, ℤ, pos, Some, None, Option}
use Rattle.pricing.specs.declared.quote.Quote.{Quote}
use Rattle.settlement.specs.declared.quarter.Quarter.{Quarter}
use Rattle.settlement.specs.declared.quarter.Quarter.TheVariants.{Blank, Priced, Closed}

-- the quote that is filed
abbrev pub quote_in : Quarter → Option Quote
quote_in Blank = None
quote_in (Priced q) = Some q
quote_in (Closed q) = Some q

-- cents per MWh of the standing price; 0 where there is none
abbrev pub standing_cents : Quarter → ℤ
standing_cents Blank = pos 0
standing_cents (Priced q) = q.price.cents
standing_cents (Closed q) = q.price.cents

-- whether the quarter is closed
abbrev pub is_closed : Quarter → Bool
is_closed Blank = false
is_closed (Priced q) = false
is_closed (Closed q) = true

-- a quarter that is closed stands at the quote that was filed
abbrev pub closed_as : Quarter → Quarter
closed_as Blank = Blank
closed_as (Priced q) = Closed q
closed_as (Closed q) = Closed q
