pub mod Adding
pub mod Alike
pub mod Tests
pub mod Rules
pub mod Walk
pub mod Round
pub mod Whole
