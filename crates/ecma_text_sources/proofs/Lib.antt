pub mod Staying
pub mod Taken
pub mod Quiet
pub mod Receivers
pub mod TypesAlone
pub mod Sources
