pub mod Answers
pub mod Outputs
pub mod Reading
