pub mod Interface
pub mod Names
pub mod Reading
