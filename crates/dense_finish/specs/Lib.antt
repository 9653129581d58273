pub mod Block
pub mod Factors
pub mod Pivots
pub mod RowRoom
