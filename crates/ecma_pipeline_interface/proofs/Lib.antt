pub mod Exported
pub mod Read
pub mod Sourced
pub mod Written
