pub mod Rules
pub mod Faults
pub mod Follows
pub mod Laws
