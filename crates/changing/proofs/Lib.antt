pub mod Halves
pub mod Changing
