pub mod Rule
pub mod Search
pub mod Kept
