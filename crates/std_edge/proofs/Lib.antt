pub mod Lending
pub mod Naming
pub mod Telling
