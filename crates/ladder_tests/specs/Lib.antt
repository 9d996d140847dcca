pub mod Mornings
pub mod Tickets
pub mod laws
