pub mod Over
pub mod Scan
pub mod Dropped
pub mod Exactly
