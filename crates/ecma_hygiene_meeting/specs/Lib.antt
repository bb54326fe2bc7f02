pub mod Places
pub mod Records
pub mod Texts
pub mod Meets
pub mod Laws
