pub mod Choosing
pub mod RuleLists
pub mod Going
pub mod Ending
pub mod Answering
