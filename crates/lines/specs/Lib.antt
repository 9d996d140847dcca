-- The line of a quote, the lines of a quarter, and what is answered and printed of a sheet; then the lines of its records.
pub mod Texts
pub mod Quarters
pub mod Answers
pub mod Records
