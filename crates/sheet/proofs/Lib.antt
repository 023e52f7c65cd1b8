pub mod Legal
pub mod Held
pub mod Answers
pub mod Sizes
