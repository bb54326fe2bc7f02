pub mod Kept
pub mod Placed
pub mod Spelled
pub mod Unreserved
pub mod Laws
