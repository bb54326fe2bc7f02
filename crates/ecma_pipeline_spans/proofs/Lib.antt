pub mod Trees
pub mod Throughout
pub mod ButFree
pub mod Contexts
pub mod PlainNodes
pub mod Stripping
pub mod Binding
pub mod Enclosing
