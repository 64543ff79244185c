pub mod Begins
pub mod Labelled
pub mod Led
pub mod Rows
pub mod Meets
pub mod Planned
pub mod Answers
