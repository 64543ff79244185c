pub mod Spellings
pub mod Quotes
pub mod Characters
pub mod Measuring
pub mod Answered
