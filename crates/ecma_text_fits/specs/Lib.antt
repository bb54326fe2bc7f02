pub mod Least
pub mod Rules
pub mod Laws
