pub mod Functions
pub mod Assignments
pub mod Laws
