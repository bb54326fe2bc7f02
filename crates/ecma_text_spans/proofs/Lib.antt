mod Trees
mod Placed
mod Forms
mod Readings
mod Finished
mod Reading
