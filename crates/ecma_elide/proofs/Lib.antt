pub mod Naming
pub mod Knowing
pub mod Equations
pub mod Fronted
pub mod Smaller
pub mod Sorting
pub mod Quiet
