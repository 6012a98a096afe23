pub mod NearText
pub mod RightTexts
pub mod Run
pub mod Nearing
