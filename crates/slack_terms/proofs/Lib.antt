pub mod Bounds
pub mod Keeps
pub mod Root
pub mod Antichains
pub mod Examples
