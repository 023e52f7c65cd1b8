pub mod Settings
pub mod Agreement
