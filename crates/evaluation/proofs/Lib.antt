-- The laws that the functions' proofs and other crates cite.
pub mod Running
pub mod Settled
pub mod Complete
pub mod Planned
pub mod Examples
