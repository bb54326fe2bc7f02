pub mod Counting
pub mod Parts
pub mod Writing
pub mod Wrapping
pub mod Laws
