pub mod Lines
pub mod Replies
pub mod Offsets
pub mod ShamPanels
