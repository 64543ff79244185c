pub mod Graph
pub mod Shape
pub mod Turn
pub mod Looks
pub mod Reads
