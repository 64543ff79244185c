pub mod LiteralLaws
pub mod DigitLaws
pub mod ByteLaws
pub mod DecimalLaws
pub mod DecimalDigits
