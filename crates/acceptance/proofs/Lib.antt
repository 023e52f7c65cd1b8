pub mod Output
pub mod Replies
pub mod Offsets
pub mod Commands
pub mod Corollaries
pub mod ShamPanels
