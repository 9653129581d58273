pub mod Added
pub mod Filling
pub mod Fronts
pub mod LineEnds
pub mod Pulls
pub mod Puts
pub mod Taken
