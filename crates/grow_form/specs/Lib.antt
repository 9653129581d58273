pub mod Answers
pub mod Example
pub mod Growing
pub mod Numbering
pub mod Script
pub mod Scripts
