pub mod Heads
pub mod Untaken
pub mod Opened
