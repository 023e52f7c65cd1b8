pub mod Downstream
pub mod Meaning
