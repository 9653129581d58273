pub mod Keeps
