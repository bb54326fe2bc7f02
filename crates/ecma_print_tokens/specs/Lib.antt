pub mod Items
pub mod Taking
pub mod Good
pub mod Lexing
pub mod Joins
pub mod Laws
