pub mod Walks
pub mod Placed
