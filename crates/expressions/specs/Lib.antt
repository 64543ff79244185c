pub mod Condition
pub mod Arguments
pub mod ArgumentLaw
pub mod Shown
