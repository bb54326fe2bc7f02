mod Pairs
mod LaidExpressions
mod LaidStatements
pub mod Layers
pub mod Seats
pub mod Givens
pub mod Texts
pub mod Covering
