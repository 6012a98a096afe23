pub mod Accepted
pub mod Cut
pub mod Tree
pub mod True
pub mod Verdict
