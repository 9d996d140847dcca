-- The number and the place of a quote's refusal.
use Rattle.std.specs.Prelude.{ℕ}
use Rattle.figures.specs.Refusals.{unreported_number, unreported_place}
use Rattle.source.specs.declared.slot.TheConstants.{SLOTS}
use Rattle.pricing.specs.declared.fault.QuoteFault.{QuoteFault}
use Rattle.pricing.specs.declared.fault.QuoteFault.TheVariants.{Unreported, NoAvoidedValue}

-- 7: a slot is not reported; 8: the result is avoided, and there is no avoided value
abbrev pub quote_number : QuoteFault → ℕ
quote_number (Unreported f) = unreported_number f
quote_number NoAvoidedValue = 8

-- the slot that is not reported; the number of slots where no slot is to blame
abbrev pub quote_place : QuoteFault → ℕ
quote_place (Unreported f) = unreported_place f
quote_place NoAvoidedValue = SLOTS
