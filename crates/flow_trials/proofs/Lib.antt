pub mod Outputs
pub mod Surely
