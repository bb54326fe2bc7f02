pub mod Judging
pub mod ByForm
pub mod Joining
pub mod Extracting
pub mod Simplicity
pub mod Costs
