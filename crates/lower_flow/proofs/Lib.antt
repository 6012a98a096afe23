pub mod Balances
pub mod Searching
pub mod Sending
pub mod Crossing
pub mod Marked
pub mod Cleared
pub mod Brought
