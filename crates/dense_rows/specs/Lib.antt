pub mod Dense
pub mod Multiples
pub mod Products
pub mod Rows
