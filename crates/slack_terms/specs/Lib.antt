pub mod Answers
pub mod Boxes
pub mod Tokens
pub mod Held
pub mod Laws
pub mod Worked
