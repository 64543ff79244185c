pub mod Copy
pub mod Written
