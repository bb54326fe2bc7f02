pub mod Standing
mod Shaped
pub mod Asking
pub mod Adding
pub mod Spotted
pub mod Lacks
mod Places
mod LaidExpressions
mod LaidStatements
pub mod Laying
pub mod Sorting
mod Chains
mod Picking
mod Ending
mod LackingEnums
mod Unlinked
pub mod Running
