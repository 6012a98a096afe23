pub mod RunText
pub mod RightTexts
pub mod Run
pub mod Weighing
