pub mod Transposed
pub mod Storing
pub mod Restored
pub mod Answers
