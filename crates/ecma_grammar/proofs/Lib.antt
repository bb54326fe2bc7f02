pub mod Glances
pub mod Steps
