pub mod Flows
pub mod Panels
pub mod Sheets
pub mod Lines
pub mod Accepted
pub mod Headers
