-- The quote of an outcome, and of what a source means.
use Rattle.std.specs.Prelude.{◌≡◌, ℕ, ℤ, Some, None, Ok, Err, Option, Result}
use Rattle.figures.specs.Gathering.{FirstUnreported, AreFiguresOf}
use Rattle.figures.specs.declared.quarter_figures.Figures.{Figures}
use Rattle.source.specs.Meanings.{Meaning}
use Rattle.source.specs.declared.direction.Direction.{Direction}
use Rattle.source.specs.declared.direction.Direction.TheVariants as dir
use Rattle.units.specs.Rounding.{rounded}
use Rattle.units.specs.declared.price.Price.{Price}
use Rattle.pricing.specs.Outcomes.{Outcome, avoided, directed}
use Rattle.pricing.specs.declared.fault.QuoteFault.{QuoteFault}
use Rattle.pricing.specs.declared.fault.QuoteFault.TheVariants.{Unreported, NoAvoidedValue}
use Rattle.pricing.specs.declared.quote.Quote.{Quote}
use Rattle.pricing.specs.declared.quote.QuoteDirection.{QuoteDirection}
use Rattle.pricing.specs.declared.quote.QuoteDirection.TheVariants.{Up, Down, Avoided}

-- the direction that a quote names where the result has one
abbrev pub quoted_direction : Direction → QuoteDirection
quoted_direction dir.Up = Up
quoted_direction dir.Down = Down

-- the byte of a direction: U, D or A
abbrev pub letter : QuoteDirection → ℕ
letter Up = 0x55
letter Down = 0x44
letter Avoided = 0x41

-- what is answered: a quote, or why there is none
abbrev pub Answer : Type 0
Answer = Result Quote QuoteFault

-- the answer is a quote under the code, in a direction and at a price of so many cents
pub record IsQuoteAt (code : ℕ) (d : QuoteDirection) (cents : ℤ) (r : Answer) : Type 0 where
  pub price : Price
  pub is : r ≡ Ok (record { code = code; direction = d; price = price })
  pub at : price.cents ≡ cents

-- the direction and the exact price rounded to the nearest cent, or A and the avoided value; refused where that is absent
abbrev pub IsQuote : ℕ → Outcome → Option Price → Answer → Type 0
IsQuote code (directed d q) a r = IsQuoteAt code (quoted_direction d) (rounded q.n q.d) r
IsQuote code avoided (Some p) r = r ≡ Ok (record { code = code; direction = Avoided; price = p })
IsQuote code avoided None r = r ≡ Err NoAvoidedValue

-- the quote of what the rulebook rules for the figures that a source gives
pub record IsQuoteOfFigures (m : Meaning) (code : ℕ) (ruling : Figures → Outcome) (r : Answer) : Type 0 where
  pub figures : Figures
  pub gives : AreFiguresOf m figures
  pub quotes : IsQuote code (ruling figures) m.avoided r

-- refused at the first unreported slot exactly where there is one, else the quote of the figures that the source gives
abbrev pub IsQuoteOfSource : Meaning → ℕ → (Figures → Outcome) → Answer → Type 0
IsQuoteOfSource m code ruling (Err (Unreported e)) = FirstUnreported m.slots e.slot
IsQuoteOfSource m code ruling (Err NoAvoidedValue) = IsQuoteOfFigures m code ruling (Err NoAvoidedValue)
IsQuoteOfSource m code ruling (Ok q) = IsQuoteOfFigures m code ruling (Ok q)
