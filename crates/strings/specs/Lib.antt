pub mod Called
pub mod Reading
pub mod Worked
