pub mod Texts
pub mod Answering
pub mod Underway
pub mod Run
pub mod Whole
