pub mod Column
pub mod Example
pub mod Found
pub mod Inverted
pub mod Prepared
pub mod ReadOff
pub mod Refuted
pub mod Substituted
