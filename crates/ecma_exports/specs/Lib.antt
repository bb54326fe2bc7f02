pub mod Places
pub mod Exports
