mod Bare
pub mod Finishing
mod Tests
mod Walks
pub mod Rules
