pub mod Claimed
pub mod Inversion
pub mod Solved
