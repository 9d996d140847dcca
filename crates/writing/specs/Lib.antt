pub mod Bytes
pub mod Trips
pub mod Writes
