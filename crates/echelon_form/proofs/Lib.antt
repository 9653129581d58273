pub mod Gathering
pub mod Keeping
pub mod Numbering
pub mod Settled
pub mod Widening
