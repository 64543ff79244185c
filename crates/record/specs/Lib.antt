pub mod Header
pub mod Layout
pub mod Blocks
pub mod Body
pub mod Branches
pub mod Atlas
pub mod Asked
pub mod Search
