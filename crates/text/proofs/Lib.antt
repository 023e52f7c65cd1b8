pub mod Outcomes
pub mod Whole
