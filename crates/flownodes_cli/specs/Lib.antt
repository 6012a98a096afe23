pub mod Words
pub mod RouteText
pub mod RightTexts
pub mod Run
pub mod Answering
pub mod Routing
