pub mod NodeText
pub mod Draft
pub mod Kept
pub mod SplitText
pub mod SplitLaws
