pub mod Days
pub mod Laddering
pub mod Metering
pub mod Only
pub mod Pricing
pub mod Settling
