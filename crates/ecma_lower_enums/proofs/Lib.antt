pub mod ByForm
pub mod Lists
pub mod Naming
pub mod Under
