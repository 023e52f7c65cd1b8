-- The laws that the functions' proofs and other crates cite.
pub mod Climbing
pub mod Changes
pub mod Searching
pub mod Renewing
pub mod Repairing
pub mod Keeping
pub mod Examples
