mod Ends
mod Moves
mod Terminals
pub mod Productions
mod Taking
pub mod Repetitions
pub mod RawShapes
pub mod Asks
pub mod Needs
pub mod Checks
pub mod Fits
mod Given
mod Leaves
mod forms
mod Makings
pub mod Sorted
