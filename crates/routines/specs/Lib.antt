pub mod Routine
pub mod Numbered
pub mod Written
pub mod Called
