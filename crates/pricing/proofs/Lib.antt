pub mod Bounding
pub mod Only
pub mod Quoting
