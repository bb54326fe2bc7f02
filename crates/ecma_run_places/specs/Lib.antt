pub mod Worlds
pub mod Alike
pub mod Making
pub mod Laws
