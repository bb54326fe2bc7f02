mod Weights
mod Needed
mod Finished
mod Chains
mod Functions
mod Classes
mod Made
mod Balances
mod Leaves
mod Paying
pub mod Few
