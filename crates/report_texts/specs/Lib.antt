pub mod ReportTexts
pub mod Laws
