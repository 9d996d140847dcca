-- What a kind of item may cite for the laws of its order.
pub mod Unsaid
