pub mod Taking
pub mod Going
pub mod Walks
pub mod Clauses
