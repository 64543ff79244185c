pub mod Exports
pub mod Tables
