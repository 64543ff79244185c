pub mod Rule
pub mod Inside
pub mod Sizes
pub mod Order
pub mod Missing
pub mod Full
pub mod Accepted
