pub mod Attaining
pub mod LoadSums
pub mod Places
pub mod Exchanging
pub mod Weights
pub mod Turns
pub mod Sorted
pub mod Lightened
