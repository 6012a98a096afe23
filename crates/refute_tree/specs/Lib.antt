pub mod Front
pub mod Passing
pub mod Choices
pub mod OneBox
pub mod Sums
pub mod Ends
pub mod Kept
pub mod Misses
