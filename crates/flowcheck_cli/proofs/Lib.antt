mod BadPlaces
mod Judged
mod Models
mod ReportSizes
mod TextCuts
pub mod Answering
mod Growing
mod Counting
mod Numbers
mod Accounts
