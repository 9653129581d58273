pub mod Appending
pub mod Example
pub mod FoundTraces
pub mod ReplayedTraces
pub mod TraceRead
pub mod WrittenTraces
