-- The laws that the functions' proofs and other crates cite.
pub mod Sets
pub mod Plan
pub mod Loops
pub mod Readers
pub mod Planning
