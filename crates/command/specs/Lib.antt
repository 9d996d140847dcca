pub mod Requests
pub mod Statuses
