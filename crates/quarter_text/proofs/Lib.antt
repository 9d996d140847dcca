pub mod InputSteps
pub mod LineSteps
pub mod LineTrips
pub mod Named
pub mod Powers
pub mod Printed
pub mod Runs
pub mod TextTrips
