pub mod Going
pub mod LineAnswers
pub mod Resuming
