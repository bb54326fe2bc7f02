pub mod Alike
pub mod Changed
pub mod Items
pub mod Looking
pub mod Telling
