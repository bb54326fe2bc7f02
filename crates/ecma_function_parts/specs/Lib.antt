pub mod Drawing
pub mod Written
