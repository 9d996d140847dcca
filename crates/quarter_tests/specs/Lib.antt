pub mod References
pub mod laws
