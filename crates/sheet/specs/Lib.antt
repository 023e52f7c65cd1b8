pub mod Sheets
pub mod Commands
pub mod Legal
