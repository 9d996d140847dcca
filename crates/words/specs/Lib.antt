pub mod Marks
pub mod Words
pub mod Numerals
pub mod Faults
pub mod Lines
pub mod Inputs
