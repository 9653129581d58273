pub mod Example
pub mod Lawful
pub mod Laws
pub mod Replayed
pub mod TraceParts
pub mod TraceText
