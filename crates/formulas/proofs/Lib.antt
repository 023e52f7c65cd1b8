-- The laws that the functions' proofs and other crates cite.
pub mod Computing
pub mod Accepting
