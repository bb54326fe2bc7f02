pub mod Heads
pub mod Signs
pub mod Tokens
pub mod Bare
pub mod ModuleTokens
pub mod Starts
