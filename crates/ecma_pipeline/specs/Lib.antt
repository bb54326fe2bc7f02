pub mod Ways
pub mod Written
pub mod Laws
