pub mod Characters
pub mod Matching
