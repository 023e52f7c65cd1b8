pub mod Choice
pub mod Settled
pub mod Scans
