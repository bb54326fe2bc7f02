pub mod Marks
pub mod Lists
pub mod Seen
pub mod Staying
pub mod Written
pub mod Scope
pub mod Walk
pub mod Plain
