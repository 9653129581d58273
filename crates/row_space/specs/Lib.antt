pub mod Echelon
pub mod Example
pub mod Factors
pub mod Inverse
pub mod Kernel
pub mod Laws
pub mod Rows
pub mod Solution
