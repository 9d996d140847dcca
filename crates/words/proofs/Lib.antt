pub mod Capped
pub mod Cuts
pub mod Decimals
pub mod NextLines
pub mod Numbers
pub mod Tokens
