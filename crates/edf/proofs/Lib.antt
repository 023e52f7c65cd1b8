pub mod Texts
pub mod Numbers
pub mod Counting
pub mod Checks
pub mod Behind
