pub mod Cases
pub mod Quarters
pub mod Runs
