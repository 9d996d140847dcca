-- Runs of the book worked by hand. The sources and rulebooks behind the prices do not matter.
use Rattle.std.specs.Prelude.{ℕ, List, [], ◌∷◌, ℤ, pos, Ok, nat_le, unsigned_abs}
use Rattle.std.proofs.Common.{leb→le}
use Rattle.std.specs.Result.{result_unwrap_or}
use Rattle.metering.specs.Imbalances.{Values, balanced}
use Rattle.metering.specs.declared.imbalance.Imbalance.{Imbalance}
use Rattle.metering.specs.declared.imbalance.TheConstants.{MOST_IMBALANCE}
use Rattle.pricing.specs.declared.quote.QuoteDirection.TheVariants.{Up}
use Rattle.settlement.specs.Answers.{Rules}
use Rattle.settlement.specs.Events.{Answered, Event, metering, pricing, settling}
use Rattle.settlement.specs.Runs.{after_run}
use Rattle.settlement.specs.declared.quarter.Quarter.{Quarter}
use Rattle.settlement.specs.declared.quarter.Quarter.TheVariants.{Priced}
use Rattle.source.specs.Meanings.{Meaning}
use Rattle.units.specs.Quantities.{lowest_price, price_of}
use Rattle.units.specs.steps.Made.{if_t}

-- a quarter that is priced at so many cents per MWh, up, under code 5; the number is in its bounds
abbrev pub priced_at : ℤ → Quarter
priced_at cents = Priced (record { code = 5; direction = Up; price = result_unwrap_or (price_of cents) lowest_price })

-- meter values without schedules and without an adjustment
abbrev pub allocated : ℤ → Values
allocated z = record { schedules = []; allocated = z; adjustment = pos 0 }

-- an imbalance in kWh, in its bounds
abbrev pub imbalance : ℤ → Imbalance
imbalance kwh = if_t (nat_le (unsigned_abs kwh) MOST_IMBALANCE) (λ h. record { kwh = kwh; bounded = leb→le (unsigned_abs kwh) MOST_IMBALANCE h }) balanced

-- so many kWh of party 0 at a price in a period, after the calls h
abbrev pub metered_at : Meaning → Rules → ℕ → ℤ → ℤ → List Event → List Event
metered_at m r p cents kwh h = metering p 0 (allocated kwh) (Ok (imbalance kwh)) ∷ pricing p m r (Ok (priced_at cents)) ∷ h

-- settling party 0 of a book of two periods and one party pays z after the calls h
abbrev pub PaysNext : List Event → ℤ → Type 0
PaysNext h z = Answered (after_run 2 1 h) (settling 0 (Ok (record { cents = z })))
