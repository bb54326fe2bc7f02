pub mod Renaming
pub mod Renamers
pub mod Walked
pub mod Laws
