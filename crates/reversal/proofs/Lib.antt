pub mod Fields
pub mod Verdicts
pub mod ReadFields
pub mod Deciding
pub mod Decision
pub mod Steps
