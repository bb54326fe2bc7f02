pub mod Equality
mod Fields
