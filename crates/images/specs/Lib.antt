pub mod Images
pub mod Entries
pub mod Forms
pub mod Reading
