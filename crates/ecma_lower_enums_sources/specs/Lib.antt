pub mod Throughout
pub mod Premises
pub mod Laws
