pub mod Numbering
pub mod Existing
pub mod Determined
pub mod Leaving
