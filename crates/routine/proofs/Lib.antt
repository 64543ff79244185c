pub mod Said
pub mod Prints
