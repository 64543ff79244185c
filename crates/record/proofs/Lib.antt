pub mod Running
pub mod Bodies
pub mod AskedLaws
pub mod SizeLaws
pub mod SearchLaws
pub mod Rising
pub mod Halving
pub mod Zeros
