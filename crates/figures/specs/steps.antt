-- What only private functions cite.
pub mod Bounds
pub mod Spans
pub mod Tallies
pub mod Gathering
