-- The quotes of a sheet in plain numbers, and the bench's day and ladder. The steps are cited by private functions alone.
pub mod Quarters
pub mod BenchDays
pub mod BenchLadders
pub mod steps
