pub mod Aliasing
pub mod Calling
pub mod Fronts
pub mod Ignoring
pub mod Mapping
pub mod Rebuilding
mod Lending
