mod Walks
mod Bodies
mod Receivers
mod Stripped
