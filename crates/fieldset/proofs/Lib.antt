-- The laws that the functions' proofs and other crates cite.
pub mod Tests
pub mod Numbers
pub mod Fields
pub mod Emptying
pub mod Bits
pub mod Tables
pub mod Lists
pub mod Maps
pub mod Rest
