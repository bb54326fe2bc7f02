pub mod Takes
pub mod Repetitions
pub mod RawSorts
pub mod Laws
