pub mod Quiet
pub mod Targets
pub mod Near
pub mod Tops
pub mod Runs
