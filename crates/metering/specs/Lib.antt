-- The imbalance that follows from meter values; last the refusals. The steps are cited by private functions alone.
pub mod Imbalances
pub mod Refusals
pub mod Steps
