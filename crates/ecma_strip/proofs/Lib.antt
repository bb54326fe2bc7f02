pub mod ChangingAt
pub mod Smaller
pub mod Stripping
pub mod Sorting
pub mod Soundness
pub mod Leaving
pub mod Untouched
