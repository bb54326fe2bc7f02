mod Seeing
mod Pairs
mod Plain
pub mod Steps
pub mod Telling
mod Valueless
mod Going
pub mod Sorted
pub mod Lasting
pub mod Bare
