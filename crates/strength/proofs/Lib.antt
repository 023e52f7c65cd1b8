-- The laws that the functions' proofs and other crates cite.
pub mod Maxima
pub mod Depth
pub mod Gather
pub mod Paths
pub mod Way
