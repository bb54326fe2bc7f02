pub mod Exchanged
pub mod Lessened
pub mod Lowered
pub mod Laws
