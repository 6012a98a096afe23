pub mod Limits
pub mod Residual
pub mod Search
pub mod Found
pub mod Clearing
pub mod Brought
