-- The quotes of figures under the five rulebooks.
use Rattle.figures.specs.declared.quarter_figures.Figures.{Figures}
use Rattle.pricing.specs.FiveQuotes.{AreByCode, code_under, ruling_under}
use Rattle.pricing.specs.Quotes.{IsQuote}
use Rattle.pricing.specs.declared.codes.FiveQuotes.{FiveQuotes}
use Rattle.pricing.specs.declared.codes.Terms.{Terms}

-- under each rulebook and the terms the quote of what is decided for the figures
abbrev pub AreQuotesOfFigures : Terms → Figures → FiveQuotes → Type 0
AreQuotesOfFigures t f q = AreByCode (λ code ruling a. IsQuote (code_under t code) (ruling_under t ruling f) f.avoided a) q
