-- What only private functions cite.
pub mod FiveQuotes
