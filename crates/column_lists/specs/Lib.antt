pub mod Columns
pub mod ColumnSet
pub mod Numbers
pub mod Parts
