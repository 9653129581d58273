pub mod Example
pub mod Keeping
pub mod Laws
pub mod Multiples
pub mod Rearranged
pub mod Shape
pub mod Turned
