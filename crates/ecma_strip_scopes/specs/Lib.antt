pub mod Going
pub mod Standing
pub mod Staying
pub mod Apart
pub mod Laws
