pub mod Exchanging
pub mod Grouping
pub mod Marking
pub mod Occurrences
pub mod Parts
pub mod Rising
