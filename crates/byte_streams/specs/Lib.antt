pub mod Buffered
pub mod Memory
pub mod Stream
pub mod Writing
