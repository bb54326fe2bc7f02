pub mod Moved
pub mod Tests
pub mod Rules
pub mod Contexts
