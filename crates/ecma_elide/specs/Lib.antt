pub mod DeclaredNames
pub mod Rules
pub mod Sets
pub mod Elision
pub mod Laws
