pub mod Sums
pub mod VertexFlows
pub mod Windows
pub mod Places
