pub mod Reversal
pub mod Taking
