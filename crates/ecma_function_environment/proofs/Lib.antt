pub mod Under
pub mod Hoisted
pub mod Naming
pub mod Ranks
pub mod Declared
pub mod Needed
pub mod Bounded
