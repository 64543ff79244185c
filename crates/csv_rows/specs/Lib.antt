pub mod Format
pub mod Called
pub mod Writing
pub mod Reading
pub mod Filling
pub mod Worked
