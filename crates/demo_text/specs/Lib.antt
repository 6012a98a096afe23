pub mod Demo
pub mod Uses
pub mod Accepted
