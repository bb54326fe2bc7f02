pub mod Parts
pub mod LackingEnums
pub mod PlainEnums
pub mod KeptParts
pub mod WritingOut
mod FinalParts
pub mod FinalTree
pub mod Renaming
pub mod GivenTexts
mod Passing
pub mod Apart
mod SortedNames
mod KeysShown
mod FinalRuns
mod Specifiers
mod Sorted
mod Seeking
mod Covering
mod Last
pub mod Declaring
