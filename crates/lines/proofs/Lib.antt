pub mod Only
pub mod Outcomes
pub mod Hex
pub mod Decided
