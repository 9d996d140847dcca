-- What is made of the answer to a sheet: the slot that is named, and the status.
pub mod Statuses
