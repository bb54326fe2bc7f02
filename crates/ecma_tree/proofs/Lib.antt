pub mod Fronts
pub mod Rewriting
mod Shaping
pub mod ShapeLaws
pub mod Items
pub mod Finding
pub mod Changing
pub mod Sameness
pub mod Layers
pub mod Weights
pub mod Valuing
