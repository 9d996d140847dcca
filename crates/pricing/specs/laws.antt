-- That the five rulebooks keep the four laws: lemmas, which an `impl` may cite from here alone. No contract cites them.
pub mod Reach
pub mod Covers
pub mod Fits
pub mod Outer
pub mod Lawful
