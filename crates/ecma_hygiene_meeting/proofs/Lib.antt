pub mod Among
mod Clear
mod Roles
pub mod Naming
mod Looking
mod Fine
mod Meeting
