pub mod Code
pub mod Coded
pub mod Lines
pub mod Spelled
pub mod State
pub mod Tables
