pub mod RouteLines
pub mod Outputs
pub mod Routed
pub mod Truths
pub mod Solved
