pub mod Keeping
pub mod Everywhere
pub mod Read
pub mod Staying
pub mod Taken
pub mod Bare
pub mod Alone
pub mod Sources
