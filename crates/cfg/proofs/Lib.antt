pub mod Reading
pub mod BlocksRead
pub mod Within
pub mod BackSearch
pub mod Few
pub mod Stands
