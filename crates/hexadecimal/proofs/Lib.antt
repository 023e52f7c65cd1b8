pub mod Stores
pub mod Digits
pub mod Offsets
pub mod Bytes
pub mod Lines
pub mod Answers
