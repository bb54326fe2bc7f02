pub mod Sources
pub mod TypesAlone
