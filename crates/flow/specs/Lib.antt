pub mod Silent
pub mod Classes
pub mod Rows
pub mod Counted
pub mod Planned
pub mod SilentList
