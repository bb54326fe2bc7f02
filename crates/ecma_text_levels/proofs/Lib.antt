mod Deeper
pub mod Levels
