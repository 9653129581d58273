pub mod Asked
pub mod Filled
pub mod Given
pub mod Placed
