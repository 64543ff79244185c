pub mod Edges
pub mod Rows
pub mod Broken
pub mod Called
pub mod Number
