pub mod Counted
pub mod Facts
pub mod Gathered
pub mod Products
pub mod Sound
pub mod Steps
