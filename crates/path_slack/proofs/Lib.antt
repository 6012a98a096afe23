pub mod Order
pub mod Distinct
pub mod Sums
