pub mod Variables
pub mod Jumps
pub mod Branches
pub mod Loops
pub mod Labels
pub mod Switches
pub mod Tries
pub mod ForLoops
