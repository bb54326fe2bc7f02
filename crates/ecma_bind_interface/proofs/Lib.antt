pub mod Bound
pub mod Enclosed
