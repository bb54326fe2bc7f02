pub mod Everywhere
pub mod Read
pub mod Staying
pub mod Taken
