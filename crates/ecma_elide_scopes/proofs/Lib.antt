pub mod Blind
pub mod Standing
pub mod Alike
pub mod Quiet
pub mod Walk
pub mod Fewer
pub mod Freed
