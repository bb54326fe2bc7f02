pub mod Trees
pub mod Names
mod Pieces
mod Making
mod Literals
mod Kept
pub mod Relation
pub mod Suiting
pub mod Forming
pub mod Relating
mod Sorted
pub mod SortsKept
pub mod Alike
mod Tests
mod Clauses
pub mod ClausesKept
