pub mod Telling
mod Lists
mod Expressions
mod Functions
mod Statements
mod Modules
pub mod Layouts
mod Plain
mod Digits
mod Tokens
pub mod Numerals
pub mod Characters
pub mod Reading
pub mod Texts
pub mod Spelled
pub mod Moved
mod Tests
mod Rules
pub mod Kept
mod Contexts
pub mod PlainTrees
pub mod Again
