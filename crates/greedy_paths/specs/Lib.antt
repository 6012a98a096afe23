pub mod Greedy
pub mod Widths
pub mod Widest
pub mod Greatest
pub mod Booking
pub mod Units
pub mod Built
pub mod Laws
