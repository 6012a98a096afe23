pub mod Halving
pub mod Weighing
