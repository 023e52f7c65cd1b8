pub mod Rows
pub mod Replies
pub mod Planned
