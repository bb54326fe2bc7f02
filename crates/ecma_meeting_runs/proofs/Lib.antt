mod Spelled
mod SpelledNames
mod Flags
mod Seeking
mod Asking
mod Bare
mod Runs
mod Plain
