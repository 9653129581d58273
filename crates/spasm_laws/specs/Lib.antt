pub mod Checked
pub mod Continuing
pub mod Examples
