pub mod Sessions
pub mod Shapes
pub mod Sorts
