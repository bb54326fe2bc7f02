pub mod Refused
pub mod Bound
pub mod Enclosed
pub mod Contexts
