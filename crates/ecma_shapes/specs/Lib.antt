pub mod Heads
pub mod Starts
pub mod LiteralTexts
pub mod MemberKinds
pub mod Shapes
pub mod Modules
