pub mod Beginnings
pub mod Sparsest
