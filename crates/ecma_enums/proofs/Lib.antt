pub mod At
pub mod Joining
pub mod Naming
pub mod Keying
pub mod Kids
pub mod Answering
pub mod Walking
