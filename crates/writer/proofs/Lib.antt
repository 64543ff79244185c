pub mod CopyLaws
pub mod TextLaws
pub mod PageLaws
pub mod Listed
pub mod Turns
