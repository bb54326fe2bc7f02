pub mod Ones
pub mod Fronted
pub mod Staying
pub mod Sorting
