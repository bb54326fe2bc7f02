pub mod Kinds
pub mod Names
pub mod Finders
pub mod Found
pub mod Statements
pub mod Vars
