pub mod Loads
pub mod Exits
pub mod Sorting
