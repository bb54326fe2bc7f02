pub mod Writing
pub mod Dropping
pub mod Leaving
