pub mod Long
pub mod Suffice
pub mod Prints
pub mod Lent
