pub mod Adding
pub mod Causes
pub mod Reading
mod Places
