pub mod Covering
pub mod Placing
pub mod Laws
