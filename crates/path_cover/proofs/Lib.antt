pub mod Moves
pub mod Loads
pub mod Crossing
pub mod Depth
pub mod Searching
pub mod Sending
pub mod LessFlow
pub mod SplitFlow
