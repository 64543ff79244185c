pub mod Page
pub mod Worked
