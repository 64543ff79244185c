pub mod Forms
pub mod Codes
pub mod Fits
pub mod Print
pub mod Lines
pub mod Shown
pub mod Cases
