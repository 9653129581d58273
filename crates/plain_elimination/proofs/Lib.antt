pub mod Elimination
pub mod Spreading
