pub mod Roles
pub mod Counts
pub mod Branches
pub mod Chains
pub mod Members
pub mod Strays
pub mod Fitting
