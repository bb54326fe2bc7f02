pub mod Items
pub mod Given
pub mod Merging
