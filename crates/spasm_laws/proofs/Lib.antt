pub mod Checking
pub mod Continuing
pub mod Examples
pub mod OneAnswer
pub mod OneTrace
