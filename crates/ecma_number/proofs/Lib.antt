pub mod Trimmed
pub mod DigitRuns
pub mod Exact
pub mod NumericLiterals
pub mod Powers
pub mod Readings
pub mod Saturated
