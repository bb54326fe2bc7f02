pub mod Items
pub mod Modules
