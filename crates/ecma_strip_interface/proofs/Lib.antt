pub mod Binding
pub mod Items
pub mod Kept
pub mod Patterns
pub mod Stripped
pub mod Values
