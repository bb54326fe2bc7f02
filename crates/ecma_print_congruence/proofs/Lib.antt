mod Telling
mod Lists
mod Expressions
mod Functions
mod Statements
mod Modules
pub mod Layouts
