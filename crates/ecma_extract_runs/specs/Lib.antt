pub mod Evaluated
pub mod Fits
pub mod Laws
