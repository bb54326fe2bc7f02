pub mod Classes
pub mod Keys
pub mod Supers
pub mod Standing
pub mod Refusing
