pub mod PlainKinds
pub mod Stays
pub mod Commuting
pub mod Remaining
pub mod Names
pub mod Imports
