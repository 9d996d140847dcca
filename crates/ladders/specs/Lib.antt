-- What an order has to keep, refusals, what stands as a list, runs of calls and what is promised of them, and the ladder itself.
-- The steps are cited by private functions alone, and the laws are for kinds of items.
pub mod Orders
pub mod Refusals
pub mod Lists
pub mod Runs
pub mod Ladders
pub mod Steps
pub mod laws
