pub mod Uncovering
