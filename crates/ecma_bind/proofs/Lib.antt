pub mod Names
pub mod Fronted
