pub mod Loads
pub mod Reported
