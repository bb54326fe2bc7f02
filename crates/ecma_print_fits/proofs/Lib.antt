mod Parts
mod Roles
pub mod Placed
mod Tests
mod Fine
mod Aimed
mod Sorted
mod Reading
mod Itself
mod Below
pub mod Unbroken
mod Strays
pub mod Strayless
mod Explicit
pub mod Branching
pub mod Chaining
pub mod Holding
pub mod Spelling
pub mod Constructing
mod Opening
pub mod Counting
mod Walking
pub mod Straying
mod Aiming
pub mod Targeting
pub mod Ruling
pub mod Usual
