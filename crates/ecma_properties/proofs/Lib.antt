pub mod Under
pub mod Counting
