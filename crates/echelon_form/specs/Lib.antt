pub mod Form
pub mod Settling
