pub mod Singles
pub mod Raw
pub mod Fronted
pub mod Places
pub mod Parted
pub mod Putting
pub mod Written
pub mod Drawn
