pub mod Standing
pub mod Functions
pub mod Items
pub mod Whole
