pub mod BatchAnswers
pub mod BatchFound
pub mod BatchLine
pub mod BatchRan
pub mod BatchStatus
pub mod BatchWords
pub mod Example
pub mod Replies
