pub mod Enclosing
