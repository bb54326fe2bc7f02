pub mod Staying
pub mod Stripping
pub mod Laws
pub mod Plain
