pub mod BareIn
pub mod Covered
