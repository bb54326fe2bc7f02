pub mod Walking
pub mod Arrays
