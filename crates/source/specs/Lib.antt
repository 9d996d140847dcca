pub mod Directions
pub mod Fills
pub mod Meanings
pub mod Products
pub mod Refusals
pub mod Slots
pub mod Tables
pub mod Telling
