pub mod Sights
pub mod Declared
pub mod Counted
pub mod Told
pub mod Placed
