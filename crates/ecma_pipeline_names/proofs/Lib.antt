pub mod Throughout
pub mod Reading
pub mod Contexts
pub mod Stripping
pub mod Binding
pub mod Enclosing
