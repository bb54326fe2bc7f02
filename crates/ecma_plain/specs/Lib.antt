pub mod Forms
pub mod Functions
pub mod Items
pub mod Writable
pub mod Plain
pub mod Read
pub mod Texts
