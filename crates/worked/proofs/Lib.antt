pub mod Figured
pub mod Worked
