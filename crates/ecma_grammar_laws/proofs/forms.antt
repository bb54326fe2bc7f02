pub mod Making
pub mod Links
pub mod Nodes
pub mod Lists
pub mod Chains
pub mod Functions
pub mod Classes
pub mod Others
