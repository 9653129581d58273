pub mod Costing
pub mod Example
pub mod Growing
pub mod Indexing
pub mod Leveling
pub mod Looking
pub mod Marking
pub mod Walking
