pub mod Under
pub mod Fronts
pub mod Fronted
