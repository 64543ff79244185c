pub mod Listed
pub mod Marks
pub mod Coded
pub mod Called
pub mod Demand
pub mod Loops
pub mod Promise
