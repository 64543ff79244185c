pub mod Columns
pub mod Called
