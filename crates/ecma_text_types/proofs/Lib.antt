pub mod Bared
mod Makings
mod Links
mod Functions
pub mod Forms
pub mod Places
pub mod Readings
mod Shaped
mod Tests
pub mod Rules
pub mod Raws
pub mod Untyped
pub mod UnmarkedChecks
pub mod Unmarked
pub mod Plain
