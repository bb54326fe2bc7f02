pub mod Counted
pub mod StandIns
pub mod Bounded
