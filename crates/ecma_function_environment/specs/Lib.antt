pub mod Needs
pub mod Seats
pub mod Members
pub mod Hoisting
pub mod Hoisters
pub mod Declaring
pub mod Laws
