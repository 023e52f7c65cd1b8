pub mod Values
pub mod Systems
pub mod Beginnings
pub mod Lists
pub mod Changes
pub mod Redraws
pub mod Saved
pub mod Worked
