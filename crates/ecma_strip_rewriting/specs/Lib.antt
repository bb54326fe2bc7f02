pub mod Commuting
pub mod Remaining
pub mod Names
pub mod Imports
