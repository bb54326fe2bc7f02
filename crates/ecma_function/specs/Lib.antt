pub mod Calls
pub mod Places
pub mod Injecting
pub mod Constructors
pub mod This
pub mod Laws
