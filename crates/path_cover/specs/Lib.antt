pub mod Carrying
pub mod GoingOn
pub mod Cut
pub mod Load
pub mod Search
