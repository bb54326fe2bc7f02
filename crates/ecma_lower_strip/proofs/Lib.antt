pub mod Refusing
pub mod Plain
pub mod Resting
pub mod Items
pub mod Lists
pub mod Modules
pub mod Law
