pub mod Limits
pub mod Nearest
pub mod Certificate
pub mod Laws
pub mod Tight
pub mod Climb
