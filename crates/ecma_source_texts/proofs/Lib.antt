pub mod Names
pub mod Contexts
pub mod Conflicts
pub mod Parentheses
pub mod Runs
