pub mod Steady
pub mod Again
pub mod Items
pub mod Twice
pub mod Names
pub mod Sorted
