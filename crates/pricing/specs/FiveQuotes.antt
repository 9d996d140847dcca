-- The quotes of a source under the five rulebooks, alone or with the incentive component over each.
use Rattle.std.specs.Prelude.{◌≡◌, ℕ, None, Ok, Err, Option, Result}
use Rattle.figures.specs.declared.fault.UnreportedSlot.{UnreportedSlot}
use Rattle.figures.specs.declared.quarter_figures.Figures.{Figures}
use Rattle.source.specs.Meanings.{Meaning}
use Rattle.units.specs.declared.price.Price.{Price}
use Rattle.pricing.specs.Bounds.{IsBoundedQuoteOfSource}
use Rattle.pricing.specs.Incentives.{code_above, incentive}
use Rattle.pricing.specs.Outcomes.{Outcome}
use Rattle.pricing.specs.Quotes.{Answer, IsQuoteOfSource}
use Rattle.pricing.specs.Rulings as rulings
use Rattle.pricing.specs.declared.fault.QuoteFault.TheVariants.{Unreported}
use Rattle.pricing.specs.declared.codes.FiveQuotes.{FiveQuotes}
use Rattle.pricing.specs.declared.codes.Terms.{Terms}
use Rattle.pricing.specs.declared.codes.Terms.TheVariants.{Alone, WithIncentive}

-- the code of a rulebook under the terms
abbrev pub code_under : Terms → ℕ → ℕ
code_under Alone code = code
code_under WithIncentive code = code_above code

-- what is decided under the terms, from the ruling of a rulebook
abbrev pub ruling_under : Terms → (Figures → Outcome) → Figures → Outcome
ruling_under Alone ruling = ruling
ruling_under WithIncentive ruling = incentive ruling

-- how far beyond the formed prices a price may go: as far as the avoided value with the incentive component, else not at all
abbrev pub beyond_formed : Terms → Option Price → Option Price
beyond_formed Alone value = None
beyond_formed WithIncentive value = value

-- the answer under each rulebook is, for its code and its ruling, as `answers` has it
pub record AreByCode (answers : ℕ → (Figures → Outcome) → Answer → Type 0) (q : FiveQuotes) : Type 0 where
  pub weighted_average : answers 1 rulings.weighted_average q.weighted_average
  pub combined_automatic : answers 2 rulings.combined_automatic q.combined_automatic
  pub combined_all : answers 3 rulings.combined_all q.combined_all
  pub max_min : answers 4 rulings.max_min q.max_min
  pub finnish : answers 5 rulings.finnish q.finnish

-- under each code the refusal at an unreported slot
abbrev pub all_unreported : UnreportedSlot → FiveQuotes
all_unreported s = record {
  weighted_average = Err (Unreported s);
  combined_automatic = Err (Unreported s);
  combined_all = Err (Unreported s);
  max_min = Err (Unreported s);
  finnish = Err (Unreported s);
}

-- under each rulebook and the terms the quote of a source or its refusal
abbrev pub AreQuotesOfSource : Terms → Meaning → FiveQuotes → Type 0
AreQuotesOfSource t m q = AreByCode (λ code ruling a. IsQuoteOfSource m (code_under t code) (ruling_under t ruling) a) q

-- each quote lies in its bounds: of a rulebook alone within the formed prices
abbrev pub AreBoundedQuotesOfSource : Terms → Meaning → FiveQuotes → Type 0
AreBoundedQuotesOfSource t m q = AreByCode (λ code ruling a. IsBoundedQuoteOfSource (beyond_formed t m.avoided) m a) q

-- the fault that comes before any quote, where there is one; else under each rulebook and the terms the quote of the source or its refusal
abbrev pub AreQuotesUnlessFault : {F : Type 0} → Result (Unit {0}) F → Terms → Meaning → Result FiveQuotes F → Type 0
AreQuotesUnlessFault (Err f) t m r = r ≡ Err f
AreQuotesUnlessFault (Ok _) t m (Ok q) = AreQuotesOfSource t m q
AreQuotesUnlessFault (Ok _) t m (Err f) = ⊥
