pub mod Everywhere
pub mod Spelling
pub mod Laws
