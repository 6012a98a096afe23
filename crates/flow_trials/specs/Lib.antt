pub mod Answered
pub mod Sure
