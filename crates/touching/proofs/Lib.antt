pub mod Places
pub mod Touching
