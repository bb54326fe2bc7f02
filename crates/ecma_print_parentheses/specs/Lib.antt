pub mod Lacking
pub mod Laws
