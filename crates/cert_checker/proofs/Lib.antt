pub mod Combining
pub mod Ending
pub mod Factors
pub mod Forms
pub mod Narrowing
pub mod Outer
