mod Both
pub mod Seats
pub mod References
pub mod Exchanging
pub mod Lessening
mod Lacking
pub mod Dropping
pub mod Going
pub mod Standing
pub mod Unused
pub mod Staying
pub mod Declaring
pub mod Lowering
mod Instances
