-- The laws that the function's proof and other crates cite.
pub mod Spreading
pub mod Walks
pub mod Tables
pub mod Gathering
pub mod Examples
