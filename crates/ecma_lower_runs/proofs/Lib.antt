pub mod Sequences
pub mod Meanings
pub mod Assigning
pub mod Items
pub mod Declared
pub mod Runs
