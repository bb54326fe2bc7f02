pub mod Sayings
pub mod Words
