-- The laws that the functions' proofs and other crates cite.
pub mod Redrawing
