pub mod Trees
pub mod Forms
pub mod Productions
pub mod Leaves
pub mod Readings
