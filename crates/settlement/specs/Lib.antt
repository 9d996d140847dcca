-- How a quarter stands, what is known of a settlement, how a call is answered and what it changes in the book; then
-- runs of calls, and what is promised of every run. Last the refusals. The steps are cited by private functions alone.
pub mod Standings
pub mod Known
pub mod Answers
pub mod Books
pub mod Changes
pub mod Events
pub mod Runs
pub mod Promises
pub mod Starting
pub mod Refusals
pub mod steps
