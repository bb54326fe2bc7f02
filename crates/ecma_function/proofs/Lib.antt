pub mod Underway
pub mod Bounded
pub mod Setting
