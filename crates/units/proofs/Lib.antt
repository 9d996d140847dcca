pub mod Cross
pub mod Made
pub mod Rounds
pub mod Spelled
