pub mod Bounds
pub mod Chains
pub mod Exact
pub mod Quantities
pub mod Rounding
pub mod Text
pub mod steps
