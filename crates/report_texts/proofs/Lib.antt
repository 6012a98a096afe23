pub mod EndedLines
pub mod EndLines
pub mod Cutting
pub mod Models
