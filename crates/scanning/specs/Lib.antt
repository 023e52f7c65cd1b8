pub mod Scan
pub mod Exactly
