pub mod Mapping
pub mod Given
pub mod Children
