pub mod Ends
pub mod Outputs
pub mod Prints
