pub mod Tree
pub mod Plan
pub mod Looks
pub mod Demand
pub mod Codes
pub mod Stored
pub mod Placed
pub mod Reads
