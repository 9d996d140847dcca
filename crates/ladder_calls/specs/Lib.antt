pub mod Refusals
pub mod Lines
pub mod Making
pub mod Standings
pub mod Texts
