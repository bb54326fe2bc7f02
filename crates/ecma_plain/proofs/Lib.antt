pub mod Telling
pub mod Walks
pub mod Whole
pub mod Counting
