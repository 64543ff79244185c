pub mod Marking
pub mod Listing
pub mod Answers
pub mod Calls
pub mod Demand
pub mod Loops
pub mod RowsHeld
pub mod Promises
