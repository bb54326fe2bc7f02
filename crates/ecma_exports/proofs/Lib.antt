pub mod Naming
pub mod Among
