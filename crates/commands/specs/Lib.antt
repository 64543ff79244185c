pub mod Literals
pub mod Calls
pub mod Table
pub mod Called
pub mod Making
pub mod Printed
pub mod Worked
