pub mod Bound
pub mod Final
pub mod Names
pub mod Specifiers
