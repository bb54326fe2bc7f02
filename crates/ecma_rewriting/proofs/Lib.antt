pub mod Equations
pub mod Staying
pub mod Shapes
