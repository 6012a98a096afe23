pub mod Overlaps
pub mod Once
pub mod Deciding
pub mod RunsByReach
