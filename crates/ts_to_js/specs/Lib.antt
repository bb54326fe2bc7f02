pub mod Stages
pub mod Refusals
pub mod Conversion
pub mod Answer
pub mod Headline
pub mod Lines
pub mod Words
pub mod Running
