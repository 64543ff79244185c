pub mod Statement
pub mod Trace
pub mod Following
pub mod Processor
pub mod Assumed
pub mod Followed
