pub mod Input
pub mod Table
