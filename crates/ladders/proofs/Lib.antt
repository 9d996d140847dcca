mod Moved
mod Found
mod Ordered
mod Searched
mod Stepped
mod EveryRun
