pub mod Inputs
pub mod Writing
pub mod HandedBlocks
