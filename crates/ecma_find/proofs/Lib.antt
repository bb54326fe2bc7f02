pub mod Finding
pub mod Naming
pub mod Declaring
pub mod Calling
pub mod Terminating
