pub mod Taken
pub mod Walking
