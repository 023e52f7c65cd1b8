pub mod Imported
pub mod Headers
