pub mod Problems
pub mod Results
pub mod Statuses
pub mod Inputs
pub mod Writing
pub mod HandedBlocks
pub mod FirstBlocks
pub mod Parts
