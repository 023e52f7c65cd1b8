pub mod Texts
pub mod Frames
pub mod Reading
