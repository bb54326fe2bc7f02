pub mod Plain
pub mod Parts
pub mod Chains
pub mod Functions
pub mod Classes
pub mod Others
