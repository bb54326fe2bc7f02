mod Turning
mod KindsTurned
mod Children
mod Making
mod Keeping
mod Refining
pub mod Finished
