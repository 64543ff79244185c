pub mod Exported
pub mod Rows
pub mod Strings
pub mod Tables
pub mod Checks
pub mod Stores
