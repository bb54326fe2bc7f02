pub mod Leaving
pub mod Ready
