pub mod Gaps
pub mod Fronts
pub mod Signs
pub mod Numerals
pub mod Absent
pub mod Privates
pub mod Regexes
pub mod Wholes
pub mod Found
pub mod Terminals
pub mod Puncts
pub mod Templates
pub mod Leaves
pub mod Longer
pub mod Joining
mod Samples
