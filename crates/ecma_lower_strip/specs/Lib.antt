pub mod Converting
pub mod Refusals
pub mod Laws
