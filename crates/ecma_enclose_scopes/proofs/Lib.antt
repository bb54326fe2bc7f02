pub mod Declared
pub mod Counted
pub mod Told
