pub mod Walking
mod Sequences
