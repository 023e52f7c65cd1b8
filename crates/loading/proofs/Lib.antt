pub mod Comparing
pub mod Versions
pub mod Loading
