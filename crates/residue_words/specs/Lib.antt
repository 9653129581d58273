pub mod Fold
pub mod Matrix
pub mod Reciprocal
pub mod Residues
pub mod Shoup
