pub mod FewBlocks
pub mod Taken
pub mod Texts
pub mod Underways
pub mod Endings
pub mod Accounts
