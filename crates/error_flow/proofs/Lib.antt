pub mod Bounding
pub mod Steps
pub mod Climbing
pub mod Shares
pub mod Depths
pub mod Raising
pub mod Tight
