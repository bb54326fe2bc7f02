pub mod Seats
pub mod Answers
pub mod References
pub mod Laws
