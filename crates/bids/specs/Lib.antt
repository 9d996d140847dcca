pub mod Numbers
pub mod Bids
pub mod Merit
pub mod laws
