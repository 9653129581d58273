pub mod Answers
pub mod Computed
pub mod Contents
pub mod Input
pub mod Ran
pub mod Shapes
pub mod Status
pub mod Summary
