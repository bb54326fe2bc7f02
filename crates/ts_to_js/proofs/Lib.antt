pub mod Utf8
pub mod Pieces
pub mod Runs
pub mod Accepting
pub mod Steps
pub mod Conversions
pub mod Enough
pub mod Outcomes
