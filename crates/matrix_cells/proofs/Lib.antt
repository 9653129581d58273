pub mod Cuts
pub mod InRows
pub mod Ordered
pub mod Renumbering
pub mod Summing
pub mod Sums
pub mod Zeros
