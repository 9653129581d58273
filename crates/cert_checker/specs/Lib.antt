pub mod Diagonal
pub mod Factoring
pub mod OuterOnes
pub mod Product
