pub mod Dropped
pub mod Walks
pub mod Tests
pub mod Rules
pub mod Around
pub mod Shapes
pub mod FitsKept
pub mod Elided
