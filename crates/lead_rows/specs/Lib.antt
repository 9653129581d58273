pub mod Accumulator
pub mod Leads
pub mod Led
pub mod Scattered
