-- What a rulebook decides, the rule of each of the five, the laws that every rulebook keeps, and the incentive component over
-- any of them; then the quote of a source, the bounds of a quote, and the quotes of the five. Last the refusals. The steps are
-- cited by private functions alone, and the laws have lemmas.
pub mod Outcomes
pub mod Rulings
pub mod FourLaws
pub mod Incentives
pub mod Quotes
pub mod Bounds
pub mod FiveQuotes
pub mod Refusals
pub mod steps
pub mod laws
